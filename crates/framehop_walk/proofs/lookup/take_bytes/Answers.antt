use Rattle.std.proofs.Common.{◌≡◌, ◌∙◌, sym, Some, None}
use Rattle.std.specs.List.{position}
use Rattle.framehop_walk.specs.Sections.{is_named}
use Rattle.framehop_walk.proofs.NamedSections.{data_of-location, data_of-no_place, without_data-location, without_data-no_place}
use Rattle.framehop_walk.proofs.lookup.take_bytes.Goals as goal

pub returns-in-Some-clause-answer : goal.returns-in-Some-clause-answer
returns-in-Some-clause-answer c =
    let location : position (is_named c.args.name.now) c.args.sections.now.items ≡ Some c.in-Some.index = rw c.as_slice.ensures.value at (sym c.in-Some.ensures) in
    c.take.ensures.value ∙ sym (data_of-location c.args.name.now c.args.sections.now.items c.in-Some.index c.index_mut.result.now location c.index_mut.ensures.value)

pub returns-in-Some-clause-taken : goal.returns-in-Some-clause-taken
returns-in-Some-clause-taken c =
    let location : position (is_named c.args.name.now) c.args.sections.now.items ≡ Some c.in-Some.index = rw c.as_slice.ensures.value at (sym c.in-Some.ensures) in
    rw c.take.ensures.after (without_data-location c.args.name.now c.args.sections.now.items c.in-Some.index c.index_mut.result.now location c.index_mut.ensures.value)

pub returns-in-None-clause-answer : goal.returns-in-None-clause-answer
returns-in-None-clause-answer c =
    let location : position (is_named c.args.name.now) c.args.sections.now.items ≡ None = rw c.as_slice.ensures.value at (sym c.in-None.ensures) in
    sym (data_of-no_place c.args.name.now c.args.sections.now.items location)

pub returns-in-None-clause-taken : goal.returns-in-None-clause-taken
returns-in-None-clause-taken c =
    let location : position (is_named c.args.name.now) c.args.sections.now.items ≡ None = rw c.as_slice.ensures.value at (sym c.in-None.ensures) in
    without_data-no_place c.args.name.now c.args.sections.now.items location
