-- What is printed of folded stacks, by the options of the command line.
use Rattle.std.specs.Prelude.{ℕ, ◌≡◌, Bool, true, false, not, ◌||◌, List, codes, unwrap_or, if◌then◌else◌}
use Rattle.clap.specs.declared.parser.matches.ArgMatches.{ArgMatches}
use Rattle.framehop_folded.specs.declared.flame_graph.drawing.Drawing.{Drawing}
use Rattle.framehop_folded.specs.declared.flame_graph.drawing.Layout.{Layout}
use Rattle.framehop_folded.specs.declared.flame_graph.drawing.Layout.TheVariants.{Icicle, Flame}
use Rattle.framehop_perf_stacks.specs.declared.run.Options.{Options}
use Rattle.framehop_stacks_cli.specs.CommandLine.{word_of, is_given}
use Rattle.framehop_stacks_cli.specs.declared.form.Form.{Form}
use Rattle.framehop_stacks_cli.specs.declared.form.Form.TheVariants.{Text, Graph, Speedscope, Changes, Json}

abbrev pub title_of : ArgMatches → List ℕ
title_of matches = unwrap_or (word_of matches (codes "title")) (codes "Flame Graph")

-- the outermost frames are at the top without `--flame`
abbrev pub layout_of : ArgMatches → Layout
layout_of matches = if is_given matches (codes "flame") then Flame else Icicle

pub record IsDrawingOf (matches : ArgMatches) (drawing : Drawing) : Type 0 where
  pub title : drawing.title.now ≡ title_of matches
  pub layout : drawing.layout ≡ layout_of matches

-- `--svg` comes before `--speedscope`, and that before `--json`
abbrev pub IsFormOf : ArgMatches → Form → Type 0
IsFormOf matches (Graph drawing) = (is_given matches (codes "svg") ≡ true) × IsDrawingOf matches drawing
IsFormOf matches (Speedscope title) = (is_given matches (codes "svg") ≡ false) × (is_given matches (codes "speedscope") ≡ true)
    × (title.now ≡ title_of matches)
IsFormOf matches Json = (is_given matches (codes "svg") ≡ false) × (is_given matches (codes "speedscope") ≡ false)
    × (is_given matches (codes "json") ≡ true)
IsFormOf matches Text = (is_given matches (codes "svg") ≡ false) × (is_given matches (codes "speedscope") ≡ false)
    × (is_given matches (codes "json") ≡ false)
IsFormOf matches Changes = ⊥

-- a picture or a profile of folded stacks, two of them compared, and JSON
abbrev pub is_drawn : Form → Bool
is_drawn (Graph drawing) = true
is_drawn (Speedscope title) = true
is_drawn form = false

abbrev pub is_compared : Form → Bool
is_compared Changes = true
is_compared form = false

abbrev pub is_json : Form → Bool
is_json Json = true
is_json form = false

-- the stacks of recordings are folded, where neither blocks nor JSON are printed of them
abbrev pub are_folded : Options → Form → Bool
are_folded options form = not (options.frames || is_json form)
