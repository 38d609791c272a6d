use Rattle.framehop_macho.proofs.x86_64.saved_registers.+list_count.Given as goal

abbrev pub decreases-list_count : goal.decreases-list_count
decreases-list_count l = l.count
