use Rattle.framehop_explain.proofs.text.told_text.Goals as goal

pub returns-in-Refused : goal.returns-in-Refused
returns-in-Refused g c = rw c.in-Refused.is (rw c.fallback_rule.ensures at c.format-in-Refused.ensures.ok)
