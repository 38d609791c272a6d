use Rattle.framehop_dump_stacks.proofs.problems.problem_line.Goals as goal

-- where there is a problem, the line does not go by what was read
pub returns-in-Some-default : goal.returns-in-Some-default
returns-in-Some-default c = rw c.in-Some-default.is-0 (rw c.as_slice.ensures.value at c.unread_line.ensures)
