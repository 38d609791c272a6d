use Rattle.std.proofs.Common.{◌≡◌, ◌+◌, ◌<◌, ◌∷◌, ◌++◌, List, length, map, Err, sym, ap, ◌∙◌, subst, arith}
use Rattle.std.proofs.lemmas.List.{length-append}
use Rattle.std.proofs.lemmas.Result.{err_from_is_err_and}
use Rattle.framehop.specs.Modules.{ModuleView, UnwinderView, greatest_end}
use Rattle.framehop_processes.specs.declared.mapping.Mapping.{Mapping}
use Rattle.framehop_processes.specs.Mappings.{IsInOrder, below, above, with_mapping, mapped_at, overlapped, changed_modules}
use Rattle.framehop_processes.specs.declared.error.ProcessesError.TheVariants.{GenerationsExhausted}
use Rattle.framehop_processes.specs.Process.{ProcessView, StartsAt}
use Rattle.framehop_processes.proofs.MappingLemmas.{with_mapping-order, whole-parts, mapped-parts, overlapped-middle, part-fits, replaced-is, greatest-mapped}
use Rattle.framehop_processes.proofs.AddressLemmas.{mapped-by_address}
use Rattle.framehop_processes.proofs.process.Process.mapped.Goals as goal

-- how many modules change, by the mappings that are overlapped
changed-is : (new : Mapping) (ms middle changed : List Mapping) → overlapped new ms ≡ middle → changed ≡ with_mapping new middle → changed_modules new ms ≡ length middle + length changed
changed-is new ms middle changed is are =
    ap (λ (l : List Mapping). length l + length (with_mapping new l)) is
    ∙ ap (λ (l : List Mapping). length middle + length l) (sym are)

-- the new mapping is among those that come
some-change : (new : Mapping) (middle changed : List Mapping) → changed ≡ with_mapping new middle → 0 < length changed
some-change new middle changed are =
    let count = length-append (below new.start middle) (new ∷ above new.end middle) in
    let same = ap length are in
    omega (arith, count, same)

pub replace-requires-clause-within : goal.replace-requires-clause-within
replace-requires-clause-within g c =
    let new = c.args.mapping in
    let ms = c.as_slice.result.now in
    let first = c.split_ending_by.ensures in
    let last = c.split_starting_below.ensures in
    let order = subst (λ (l : List Mapping). IsInOrder 0 l) (sym c.as_slice.ensures.value) c.self.invariant.0 in
    part-fits new c.if-mapping.false ms c.split_ending_by.result.0.now c.split_ending_by.result.1.now
    c.split_starting_below.result.0.now c.split_starting_below.result.1.now first.whole first.before last.whole
    last.after order
    c.self.inside.mappings.items c.as_slice.ensures.value

pub returns-clause-mapped : goal.returns-clause-mapped
returns-clause-mapped g c =
    let new = c.args.mapping in
    let ms = c.as_slice.result.now in
    let first = c.split_ending_by.ensures in
    let last = c.split_starting_below.ensures in
    let order = subst (λ (l : List Mapping). IsInOrder 0 l) (sym c.as_slice.ensures.value) c.self.invariant.0 in
    let same = c.as_slice.ensures.value ∙ ap (λ (p : ProcessView). p.mappings) c.self.view_is in
    replaced-is new c.if-mapping.false ms c.split_ending_by.result.0.now c.split_ending_by.result.1.now
    c.split_starting_below.result.0.now c.split_starting_below.result.1.now first.whole first.before last.whole
    last.after order
    c.self.inside.mappings.items c.as_slice-3.result.now c.replace.new.list.items c.as_slice.ensures.value
    (c.as_slice-3.ensures.value ∙ c.in_ok-changed.ensures) c.in_ok-replace.ensures
    ∙ ap (with_mapping new) same

pub returns-clause-by_address : goal.returns-clause-by_address
returns-clause-by_address g c address =
    let new = c.args.mapping in
    let ms = c.as_slice.result.now in
    let first = c.split_ending_by.ensures in
    let last = c.split_starting_below.ensures in
    let order = subst (λ (l : List Mapping). IsInOrder 0 l) (sym c.as_slice.ensures.value) c.self.invariant.0 in
    let same = c.as_slice.ensures.value ∙ ap (λ (p : ProcessView). p.mappings) c.self.view_is in
    let all = replaced-is new c.if-mapping.false ms c.split_ending_by.result.0.now c.split_ending_by.result.1.now
    c.split_starting_below.result.0.now c.split_starting_below.result.1.now first.whole first.before last.whole
    last.after order
    c.self.inside.mappings.items c.as_slice-3.result.now c.replace.new.list.items c.as_slice.ensures.value
    (c.as_slice-3.ensures.value ∙ c.in_ok-changed.ensures) c.in_ok-replace.ensures
    ∙ ap (with_mapping new) same in
    ap (mapped_at address) all ∙ mapped-by_address address new c.args.self.mappings c.if-mapping.false

pub invariant_of-result : goal.invariant_of-result
invariant_of-result g c =
    let new = c.args.mapping in
    let ms = c.as_slice.result.now in
    let before = c.split_ending_by.result.0.now in
    let rest = c.split_ending_by.result.1.now in
    let middle = c.split_starting_below.result.0.now in
    let after = c.split_starting_below.result.1.now in
    let first = c.split_ending_by.ensures in
    let last = c.split_starting_below.ensures in
    let some = c.if-mapping.false in
    let module_of : Mapping → ModuleView = g.M.ModuleMaker.module_of c.args.maker.now in
    let starts : StartsAt module_of = λ m. g.met.M.ModuleMaker.start_is c.args.maker.now m in
    let order = subst (λ (l : List Mapping). IsInOrder 0 l) (sym c.as_slice.ensures.value) c.self.invariant.0 in
    let same = c.as_slice.ensures.value ∙ ap (λ (p : ProcessView). p.mappings) c.self.view_is in
    let whole = whole-parts new some ms before rest middle after first.whole first.before last.whole last.after order in
    let mapped = mapped-parts new some ms before rest middle after first.whole first.before last.whole last.after order in
    let added = c.as_slice-2.ensures.value ∙ c.in_ok-changed.ensures in
    let all = ap (λ (l : List Mapping). before ++ (l ++ after)) added ∙ mapped in
    let unwinder = ap (λ (p : ProcessView). p.unwinder) c.self.view_is in
    let modules = ap (λ (u : UnwinderView). u.modules) unwinder ∙ c.requires ∙ ap (map module_of) (sym same ∙ whole) in
    let removed = c.in_ok-remove_modules.ensures.removed module_of starts before after (subst (λ (l : List Mapping). IsInOrder 0 l) whole order) modules in
    let in_order = subst (λ (l : List Mapping). IsInOrder 0 l) (sym all) (with_mapping-order new ms some order) in
    let listed = replaced-is new some ms before rest middle after first.whole first.before last.whole last.after order
    c.self.inside.mappings.items c.as_slice-3.result.now c.replace.new.list.items c.as_slice.ensures.value
    (c.as_slice-3.ensures.value ∙ c.in_ok-changed.ensures) c.in_ok-replace.ensures in
    let all_modules = c.in_ok-add_modules.ensures.added before after in_order removed.0
    ∙ ap (map module_of) (all ∙ sym listed) in (
      subst (λ (l : List Mapping). IsInOrder 0 l) (sym listed) (with_mapping-order new ms some order),
      ap greatest_end all_modules
          ∙ greatest-mapped module_of (λ m. g.met.M.ModuleMaker.end_is c.args.maker.now m) c.replace.new.list.items,
    )

pub returns-clause-served : goal.returns-clause-served
returns-clause-served g c =
    let new = c.args.mapping in
    let ms = c.as_slice.result.now in
    let before = c.split_ending_by.result.0.now in
    let rest = c.split_ending_by.result.1.now in
    let middle = c.split_starting_below.result.0.now in
    let after = c.split_starting_below.result.1.now in
    let first = c.split_ending_by.ensures in
    let last = c.split_starting_below.ensures in
    let some = c.if-mapping.false in
    let module_of : Mapping → ModuleView = g.M.ModuleMaker.module_of c.args.maker.now in
    let starts : StartsAt module_of = λ m. g.met.M.ModuleMaker.start_is c.args.maker.now m in
    let order = subst (λ (l : List Mapping). IsInOrder 0 l) (sym c.as_slice.ensures.value) c.self.invariant.0 in
    let same = c.as_slice.ensures.value ∙ ap (λ (p : ProcessView). p.mappings) c.self.view_is in
    let whole = whole-parts new some ms before rest middle after first.whole first.before last.whole last.after order in
    let mapped = mapped-parts new some ms before rest middle after first.whole first.before last.whole last.after order in
    let added = c.as_slice-2.ensures.value ∙ c.in_ok-changed.ensures in
    let all = ap (λ (l : List Mapping). before ++ (l ++ after)) added ∙ mapped in
    let unwinder = ap (λ (p : ProcessView). p.unwinder) c.self.view_is in
    let modules = ap (λ (u : UnwinderView). u.modules) unwinder ∙ c.requires ∙ ap (map module_of) (sym same ∙ whole) in
    let removed = c.in_ok-remove_modules.ensures.removed module_of starts before after (subst (λ (l : List Mapping). IsInOrder 0 l) whole order) modules in
    let in_order = subst (λ (l : List Mapping). IsInOrder 0 l) (sym all) (with_mapping-order new ms some order) in
    let listed = replaced-is new some ms before rest middle after first.whole first.before last.whole last.after order
    c.self.inside.mappings.items c.as_slice-3.result.now c.replace.new.list.items c.as_slice.ensures.value
    (c.as_slice-3.ensures.value ∙ c.in_ok-changed.ensures) c.in_ok-replace.ensures in
    c.in_ok-add_modules.ensures.added before after in_order removed.0
    ∙ ap (map module_of) (all ∙ sym listed)

pub returns-clause-counted : goal.returns-clause-counted
returns-clause-counted g c =
    let new = c.args.mapping in
    let ms = c.as_slice.result.now in
    let before = c.split_ending_by.result.0.now in
    let rest = c.split_ending_by.result.1.now in
    let middle = c.split_starting_below.result.0.now in
    let after = c.split_starting_below.result.1.now in
    let first = c.split_ending_by.ensures in
    let last = c.split_starting_below.ensures in
    let some = c.if-mapping.false in
    let module_of : Mapping → ModuleView = g.M.ModuleMaker.module_of c.args.maker.now in
    let starts : StartsAt module_of = λ m. g.met.M.ModuleMaker.start_is c.args.maker.now m in
    let order = subst (λ (l : List Mapping). IsInOrder 0 l) (sym c.as_slice.ensures.value) c.self.invariant.0 in
    let same = c.as_slice.ensures.value ∙ ap (λ (p : ProcessView). p.mappings) c.self.view_is in
    let whole = whole-parts new some ms before rest middle after first.whole first.before last.whole last.after order in
    let unwinder = ap (λ (p : ProcessView). p.unwinder) c.self.view_is in
    let modules = ap (λ (u : UnwinderView). u.modules) unwinder ∙ c.requires ∙ ap (map module_of) (sym same ∙ whole) in
    let removed = c.in_ok-remove_modules.ensures.removed module_of starts before after (subst (λ (l : List Mapping). IsInOrder 0 l) whole order) modules in
    let added = c.as_slice-2.ensures.value ∙ c.in_ok-changed.ensures in
    let count = ap (changed_modules new) (sym same) ∙ changed-is new ms middle c.as_slice-2.result.now
    (overlapped-middle new some ms before rest middle after first.whole first.before last.whole last.after order)
    added in
    let gone = removed.1 in
    let come = c.in_ok-add_modules.ensures.drawn in (
      omega (arith, count, gone, come),
      c.in_ok-add_modules.ensures.last (some-change new middle c.as_slice-2.result.now added),
    )

pub returns-in_err-remove_modules-clause-exhausted : goal.returns-in_err-remove_modules-clause-exhausted
returns-in_err-remove_modules-clause-exhausted g c is =
    let new = c.args.mapping in
    let ms = c.as_slice.result.now in
    let before = c.split_ending_by.result.0.now in
    let rest = c.split_ending_by.result.1.now in
    let middle = c.split_starting_below.result.0.now in
    let after = c.split_starting_below.result.1.now in
    let first = c.split_ending_by.ensures in
    let last = c.split_starting_below.ensures in
    let some = c.if-mapping.false in
    let module_of : Mapping → ModuleView = g.M.ModuleMaker.module_of c.args.maker.now in
    let starts : StartsAt module_of = λ m. g.met.M.ModuleMaker.start_is c.args.maker.now m in
    let order = subst (λ (l : List Mapping). IsInOrder 0 l) (sym c.as_slice.ensures.value) c.self.invariant.0 in
    let same = c.as_slice.ensures.value ∙ ap (λ (p : ProcessView). p.mappings) c.self.view_is in
    let whole = whole-parts new some ms before rest middle after first.whole first.before last.whole last.after order in
    let unwinder = ap (λ (p : ProcessView). p.unwinder) c.self.view_is in
    let modules = ap (λ (u : UnwinderView). u.modules) unwinder ∙ c.requires ∙ ap (map module_of) (sym same ∙ whole) in
    let count = ap (changed_modules new) (sym same) ∙ changed-is new ms middle c.in_ok-changed.changed.items
    (overlapped-middle new some ms before rest middle after first.whole first.before last.whole last.after order)
    c.in_ok-changed.ensures in
    let ended = c.in_err-remove_modules.ensures.exhausted in
    let short = ended.2 module_of starts before after (subst (λ (l : List Mapping). IsInOrder 0 l) whole order) modules in
    (ended.1, omega (arith, count, short))

pub returns-in_err-add_modules-clause-exhausted : goal.returns-in_err-add_modules-clause-exhausted
returns-in_err-add_modules-clause-exhausted g c is =
    let new = c.args.mapping in
    let ms = c.as_slice.result.now in
    let before = c.split_ending_by.result.0.now in
    let rest = c.split_ending_by.result.1.now in
    let middle = c.split_starting_below.result.0.now in
    let after = c.split_starting_below.result.1.now in
    let first = c.split_ending_by.ensures in
    let last = c.split_starting_below.ensures in
    let some = c.if-mapping.false in
    let module_of : Mapping → ModuleView = g.M.ModuleMaker.module_of c.args.maker.now in
    let starts : StartsAt module_of = λ m. g.met.M.ModuleMaker.start_is c.args.maker.now m in
    let order = subst (λ (l : List Mapping). IsInOrder 0 l) (sym c.as_slice.ensures.value) c.self.invariant.0 in
    let same = c.as_slice.ensures.value ∙ ap (λ (p : ProcessView). p.mappings) c.self.view_is in
    let whole = whole-parts new some ms before rest middle after first.whole first.before last.whole last.after order in
    let unwinder = ap (λ (p : ProcessView). p.unwinder) c.self.view_is in
    let modules = ap (λ (u : UnwinderView). u.modules) unwinder ∙ c.requires ∙ ap (map module_of) (sym same ∙ whole) in
    let removed = c.in_ok-remove_modules.ensures.removed module_of starts before after (subst (λ (l : List Mapping). IsInOrder 0 l) whole order) modules in
    let gone = removed.1 in
    let count = ap (changed_modules new) (sym same) ∙ changed-is new ms middle c.as_slice-2.result.now
    (overlapped-middle new some ms before rest middle after first.whole first.before last.whole last.after order)
    (c.as_slice-2.ensures.value ∙ c.in_ok-changed.ensures) in
    let p = err_from_is_err_and c.from_residual-in_err-add_modules.result c.from_residual-in_err-add_modules.ensures.1 in
    let same = sym (p.1 ∙ ap (λ error. Err error) p.2) ∙ is in
    let same_error : c.in_err-add_modules.field-0.0 ≡ GenerationsExhausted = cc in
    let ended = c.in_err-add_modules.ensures.exhausted (ap (λ error. Err error) same_error) in
    let short = ended.1 in
    (ended.0, omega (arith, count, gone, short))
