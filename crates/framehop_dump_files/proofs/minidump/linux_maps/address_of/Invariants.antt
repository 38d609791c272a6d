use Rattle.std.proofs.Common.{◌≡◌, ◌<◌, ◌^◌, true, take}
use Rattle.std.specs.Char.{is_digit}
use Rattle.std.specs.List.{list_all}
use Rattle.std.specs.Str.Parse.{digits_value}
use Rattle.framehop_dump_files.proofs.minidump.linux_maps.address_of.Given as goal

abbrev pub invariant-loop-digit : goal.invariant-loop-digit
invariant-loop-digit l =
    (list_all (λ digit. is_digit digit 16) (take l.digit-index l.digits) ≡ true)
    × (l.address ≡ digits_value 16 (take l.digit-index l.digits))
    × (l.address < 16 ^ l.digit-index)
