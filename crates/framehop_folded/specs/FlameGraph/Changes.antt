-- A flame graph of two runs: its boxes are those of the second run, and their colours say how their parts of all differ
-- from those in the first (Brendan Gregg, "Differential Flame Graphs").
use Rattle.std.specs.Prelude.{ℕ, Bool, ◌≡◌, ◌==◌, ◌||◌, ◌^◌, Option, Some, None, List, [], ◌∷◌, ◌++◌, ◌-◌, codes, length, map, max, min, nat_lt, nat_le, if◌then◌else◌}
use Rattle.std.specs.Fmt.{decimal}
use Rattle.std.specs.List.{filter, flat_map, fold}
use Rattle.framehop_folded.specs.declared.flame_graph.boxes.FrameBox.{FrameBox}
use Rattle.framehop_folded.specs.declared.flame_graph.changes.ChangedBox.{ChangedBox}
use Rattle.framehop_folded.specs.declared.flame_graph.changes.Totals.{Totals}
use Rattle.framehop_folded.specs.declared.flame_graph.drawing.Drawing.{Drawing}
use Rattle.framehop_folded.specs.declared.flame_graph.drawing.Layout.{Layout}
use Rattle.framehop_folded.specs.declared.flame_graph.error.FlameGraphError.{FlameGraphError}
use Rattle.framehop_folded.specs.declared.flame_graph.error.FlameGraphError.TheVariants.{NothingCounted, TotalTooLarge}
use Rattle.framehop_folded.specs.FlameGraph.Boxes.{Box, ArePrefixes, boxed, box_of, root_of}
use Rattle.framehop_folded.specs.FlameGraph.Names.{characters_of, escaped}
use Rattle.framehop_folded.specs.FlameGraph.Numbers.{share, nearest_share, is_shown, hundredths}
use Rattle.framehop_folded.specs.FlameGraph.Picture.{top_of, samples, span_of, label_of, head_of, script_of}
use Rattle.framehop_folded.specs.FlameGraph.Stacks.{Stacked, begins_with, count_where, total_of}

-- a box of the second run, and the counts of its stacks in the first
pub record Change : Type 0 where
  pub box : Box
  pub before : ℕ

abbrev pub viewed_change : ChangedBox → Change
viewed_change change = record { box = boxed change.frame; before = change.before }

-- the box of a prefix of stacks, which are counted in the second run and in the first
abbrev pub change_of : List Stacked → List Stacked → List (List ℕ) → Change
change_of stacks before prefix = record { box = box_of stacks prefix; before = count_where (begins_with prefix) before }

-- all boxes, that of all stacks first
abbrev pub changes_of : List Stacked → List Stacked → List (List (List ℕ)) → List Change
changes_of stacks before prefixes =
    record { box = root_of stacks; before = total_of before } ∷ map (change_of stacks before) prefixes

-- each box of the second run with the one of the first in the same place
abbrev pub joined : List FrameBox → List FrameBox → List ChangedBox
joined [] before = []
joined (frame ∷ frames) [] = []
joined (frame ∷ frames) (before ∷ befores) = record { frame = frame; before = before.count } ∷ joined frames befores

-- whether a box is drawn, by its place in the second run
abbrev pub is_drawn : Totals → Change → Bool
is_drawn totals change = is_shown totals.now change.box

-- how many rows there are beside that of the root
abbrev pub deepest_of : List Change → ℕ
deepest_of changes = fold (λ depth change. max depth change.box.depth) 0 changes

-- How pale a box is: from 90, where its part of all is new or gone, to 230, where it is the same.
abbrev pub pale : ℕ → ℕ → ℕ
pale before now = let most = max before now in
    if most == 0 then 230 else 230 - share (most - min before now) 140 most

-- red where a part grew, blue where it shrank, grey where it is the same
unfoldable pub change_colour : ℕ → ℕ → List ℕ
change_colour before now = let shade = decimal (pale before now) in
    if nat_lt before now then codes "rgb(230," ++ shade ++ codes "," ++ shade ++ codes ")"
    else codes "rgb(" ++ shade ++ codes "," ++ shade ++ codes ",230)"

-- a count and its part of all, in per cent
unfoldable pub told : ℕ → ℕ → List ℕ
told count total = samples count ++ codes ", " ++ hundredths (nearest_share count 10000 total) ++ codes "%"

-- what is shown where the pointer is over a box
unfoldable pub change_title_of : Totals → Change → List ℕ
change_title_of totals change = codes "<title>" ++ escaped (characters_of change.box.name)
    ++ codes " (" ++ told change.box.count totals.now ++ codes "; before " ++ told change.before totals.before ++ codes ")</title>"

-- the rectangle of a box, by its parts of all in billionths
unfoldable pub change_rectangle_of : Totals → ℕ → Change → List ℕ
change_rectangle_of totals top change = codes "<rect" ++ span_of totals.now change.box
    ++ codes " y=\"" ++ decimal top ++ codes "\" height=\"15\" fill=\""
    ++ change_colour (share change.before 1000000000 totals.before) (share change.box.count 1000000000 totals.now) ++ codes "\"/>"

-- a box in a picture of so many rows beside that of the root
unfoldable pub change_drawn : Layout → Totals → ℕ → Change → List ℕ
change_drawn layout totals rows change = let top = top_of layout rows change.box.depth in
    codes "<g>" ++ change_title_of totals change ++ change_rectangle_of totals top change
    ++ label_of totals.now top change.box ++ codes "</g>\n"

-- all of the picture: these boxes, where so many others were left out
abbrev pub change_picture_of : Drawing → Totals → List Change → ℕ → List ℕ
change_picture_of drawing totals changes left_out = let rows = deepest_of changes in
    head_of drawing.title.now rows left_out ++ flat_map (change_drawn drawing.layout totals rows) changes
    ++ script_of drawing.script ++ codes "</svg>\n"

-- all of the picture: those boxes that are drawn
abbrev pub shown_changes_of : Drawing → Totals → List Change → List ℕ
shown_changes_of drawing totals changes = let shown = filter (is_drawn totals) changes in
    change_picture_of drawing totals shown (length changes - length shown)

-- why there is no flame graph of stacks that are counted in both runs, if there is none
abbrev pub refusal_of_both : List Stacked → List Stacked → Option FlameGraphError
refusal_of_both stacks before =
    if nat_le (2 ^ 64) (total_of stacks) || nat_le (2 ^ 64) (total_of before) then Some TotalTooLarge
    else if total_of stacks == 0 || total_of before == 0 then Some NothingCounted
    else None

-- The text is the flame graph of stacks, which are counted in the second run and in the first.
abbrev pub IsChangeGraph : Drawing → List Stacked → List Stacked → List ℕ → Type 0
IsChangeGraph drawing stacks before svg =
    (prefixes : List (List (List ℕ))) × ArePrefixes stacks prefixes
    × (svg ≡ shown_changes_of drawing (record { before = total_of before; now = total_of stacks }) (changes_of stacks before prefixes))
