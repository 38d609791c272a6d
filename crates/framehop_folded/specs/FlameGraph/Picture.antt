-- A flame graph as an SVG: boxes in rows of 16 pixels, below a heading.
use Rattle.std.specs.Prelude.{ℕ, ◌≡◌, ◌==◌, ◌^◌, Option, Some, None, List, [], ◌++◌, ◌+◌, ◌-◌, ◌*◌, codes, length, max, nat_lt, nat_le, if◌then◌else◌}
use Rattle.std.specs.Borrow.{Bor}
use Rattle.std.specs.Fmt.{decimal}
use Rattle.std.specs.List.{filter, flat_map, fold}
use Rattle.framehop_folded.specs.declared.flame_graph.drawing.Drawing.{Drawing}
use Rattle.framehop_folded.specs.declared.flame_graph.drawing.Layout.{Layout}
use Rattle.framehop_folded.specs.declared.flame_graph.drawing.Layout.TheVariants.{Icicle, Flame}
use Rattle.framehop_folded.specs.declared.flame_graph.error.FlameGraphError.{FlameGraphError}
use Rattle.framehop_folded.specs.declared.flame_graph.error.FlameGraphError.TheVariants.{NothingCounted, TotalTooLarge}
use Rattle.framehop_folded.specs.FlameGraph.Boxes.{Box, ArePrefixes, boxes_of}
use Rattle.framehop_folded.specs.FlameGraph.Names.{characters_of, escaped, fitting, cut, colour_of}
use Rattle.framehop_folded.specs.FlameGraph.Numbers.{nearest_share, edge, width_of, is_shown, hundredths}
use Rattle.framehop_folded.specs.FlameGraph.Stacks.{Stacked, total_of}

-- how many rows there are beside that of the root
abbrev pub deepest : List Box → ℕ
deepest boxes = fold (λ depth box. max depth box.depth) 0 boxes

-- How far below the top edge a box is, in a picture of so many rows beside that of the root: an icicle hangs from the
-- root, and a flame stands on it.
abbrev pub top_of : Layout → ℕ → ℕ → ℕ
top_of Icicle rows depth = 56 + 16 * depth
top_of Flame rows depth = 56 + 16 * (rows - depth)

-- a count with its unit
abbrev pub samples : ℕ → List ℕ
samples count = if count == 1 then codes "1 sample" else decimal count ++ codes " samples"

-- what is shown where the pointer is over a box: its name, its count, and its part of all, in per cent
unfoldable pub title_of : ℕ → Box → List ℕ
title_of total box = codes "<title>" ++ escaped (characters_of box.name)
    ++ codes " (" ++ samples box.count ++ codes ", " ++ hundredths (nearest_share box.count 10000 total) ++ codes "%)</title>"

-- where a box begins and how wide it is, as attributes
unfoldable pub span_of : ℕ → Box → List ℕ
span_of total box = codes " x=\"" ++ hundredths (edge total box.left)
    ++ codes "\" width=\"" ++ hundredths (width_of total box) ++ codes "\""

-- the rectangle of a box
unfoldable pub rectangle_of : ℕ → ℕ → Box → List ℕ
rectangle_of total top box = codes "<rect" ++ span_of total box
    ++ codes " y=\"" ++ decimal top ++ codes "\" height=\"15\" fill=\"" ++ colour_of box.name ++ codes "\"/>"

-- the name in the box, if three characters fit
unfoldable pub label_of : ℕ → ℕ → Box → List ℕ
label_of total top box = let fit = fitting (width_of total box) in if nat_lt fit 3 then [] else
    codes "<text x=\"" ++ hundredths (edge total box.left + 300) ++ codes "\" y=\"" ++ decimal (top + 12) ++ codes "\">"
    ++ escaped (cut fit (characters_of box.name)) ++ codes "</text>"

-- a box in a picture of so many rows beside that of the root
unfoldable pub drawn : Layout → ℕ → ℕ → Box → List ℕ
drawn layout total rows box = let top = top_of layout rows box.depth in
    codes "<g>" ++ title_of total box ++ rectangle_of total top box ++ label_of total top box ++ codes "</g>\n"

-- the beginning of the text
unfoldable pub opening_of : ℕ → List ℕ
opening_of height = codes "<?xml version=\"1.0\" encoding=\"UTF-8\"?>\n<svg xmlns=\"http://www.w3.org/2000/svg\""
    ++ codes " width=\"1220\" height=\"" ++ decimal height ++ codes "\" viewBox=\"-10 0 1220 " ++ decimal height
    ++ codes "\" font-family=\"monospace\" font-size=\"12\">\n"

-- the title of the document, which is to be its first element (SVG 1.1, 5.4)
unfoldable pub document_title_of : List ℕ → List ℕ
document_title_of title = codes "<title>" ++ escaped title ++ codes "</title>\n"

unfoldable pub background_of : ℕ → List ℕ
background_of height =
    codes "<rect x=\"-10\" y=\"0\" width=\"1220\" height=\"" ++ decimal height ++ codes "\" fill=\"#ffffff\"/>\n"

-- the title as a heading, of which 115 characters fit
unfoldable pub heading_of : List ℕ → List ℕ
heading_of title = codes "<text x=\"600\" y=\"24\" font-size=\"17\" text-anchor=\"middle\">"
    ++ escaped (cut 115 title) ++ codes "</text>\n"

-- how many boxes were left out, if any were
unfoldable pub note_of : ℕ → List ℕ
note_of left_out = if left_out == 0 then [] else
    codes "<text x=\"0\" y=\"44\">Boxes narrower than a tenth of a pixel or beyond 4096 frames, left out: " ++ decimal left_out ++ codes "</text>\n"

-- what comes before the boxes
abbrev pub head_of : List ℕ → ℕ → ℕ → List ℕ
head_of title rows left_out =
    opening_of (82 + 16 * rows) ++ document_title_of (characters_of title) ++ background_of (82 + 16 * rows)
    ++ heading_of (characters_of title) ++ note_of left_out

-- a script as it is (XML 1.0, 2.7)
unfoldable pub script_element_of : List ℕ → List ℕ
script_element_of script = codes "<script><![CDATA[" ++ script ++ codes "]]></script>\n"

-- a script, if there is one
abbrev pub script_of : Option (Bor (List ℕ)) → List ℕ
script_of None = []
script_of (Some script) = script_element_of script.now

-- all of the picture: these boxes, where so many others were left out
abbrev pub picture_of : Drawing → ℕ → List Box → ℕ → List ℕ
picture_of drawing total boxes left_out = let rows = deepest boxes in
    head_of drawing.title.now rows left_out ++ flat_map (drawn drawing.layout total rows) boxes
    ++ script_of drawing.script ++ codes "</svg>\n"

-- all of the picture: those boxes that are drawn
abbrev pub shown_of : Drawing → ℕ → List Box → List ℕ
shown_of drawing total boxes = let shown = filter (is_shown total) boxes in
    picture_of drawing total shown (length boxes - length shown)

-- the flame graph of stacks, of which these are the prefixes
abbrev pub svg_of : Drawing → List Stacked → List (List (List ℕ)) → List ℕ
svg_of drawing stacks prefixes = shown_of drawing (total_of stacks) (boxes_of stacks prefixes)

-- why there is no flame graph of stacks, if there is none
abbrev pub refusal_of : List Stacked → Option FlameGraphError
refusal_of stacks =
    if nat_le (2 ^ 64) (total_of stacks) then Some TotalTooLarge
    else if total_of stacks == 0 then Some NothingCounted
    else None

-- the text is the flame graph of the stacks
abbrev pub IsFlameGraph : Drawing → List Stacked → List ℕ → Type 0
IsFlameGraph drawing stacks svg =
    (prefixes : List (List (List ℕ))) × ArePrefixes stacks prefixes × (svg ≡ svg_of drawing stacks prefixes)
