use Rattle.std.proofs.Common.{rules, ◌≡◌, ◌-◌, ℕ, List, Some, None, refl}
use Rattle.framehop_processes.specs.CodeMap.{code_function_at, code_name_at}
use Rattle.framehop_processes.specs.declared.code_map.CodeFunction.{CodeFunction}
use Rattle.framehop_processes.proofs.CodeMapLemmas.{function-in-force}
use Rattle.framehop_processes.proofs.code_map.CodeFunctions.function_at.Goals as goal

abbrev named : ℕ → CodeFunction → List ℕ × ℕ
named address function = (function.name.items, address - function.start)

pub returns-in_err-function : goal.returns-in_err-function
unfolding code_name_at
returns-in_err-function c =
    let found = function-in-force c.self.inside.functions.items c.self.inside.by_address c.args.address c.number_at-number.result c.self.invariant c.number_at-number.ensures in
    let none : code_function_at c.args.self.now c.args.address ≡ None = search rules in
    let given : c.from_residual.result ≡ None = search rules in
    rw (given, none) refl

pub returns : goal.returns
unfolding code_name_at
returns c =
    let found = function-in-force c.self.inside.functions.items c.self.inside.by_address c.args.address c.number_at-number.result c.self.invariant c.number_at-number.ensures in
    let some : code_function_at c.args.self.now c.args.address ≡ Some c.in_ok-function.function.now = search rules in
    rw some (search rules)
