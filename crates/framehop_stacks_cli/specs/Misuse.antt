-- Which options do not go together, or not with a kind of file, and what is said of it.
use Rattle.std.specs.Prelude.{ℕ, List, [], ◌∷◌, codes, Bool, true, false, not, ◌&&◌, ◌||◌, Option, Some, None, is_some, if◌then◌else◌}
use Rattle.clap.specs.declared.parser.matches.ArgMatches.{ArgMatches}
use Rattle.framehop_disk.specs.declared.input.Kind.{Kind}
use Rattle.framehop_disk.specs.declared.input.Kind.TheVariants.{Core, Minidump, Folded}
use Rattle.framehop_perf_stacks.specs.declared.run.Options.{Options}
use Rattle.framehop_stacks_cli.specs.CommandLine.{is_given, word_of}
use Rattle.framehop_stacks_cli.specs.Form.{is_compared, is_drawn, is_json}
use Rattle.framehop_stacks_cli.specs.declared.form.Form.{Form}
use Rattle.framehop_stacks_cli.specs.declared.misuse.Given.{Given}

-- what is said of options that are given, where a condition holds
abbrev pub Rule : Type 0
Rule = Bool × List ℕ

-- of rules the first that holds
abbrev pub first_said : List Rule → Option (List ℕ)
first_said [] = None
first_said (rule ∷ rules) = if rule.0 then Some rule.1 else first_said rules

-- the options that are given
abbrev pub given_by : ArgMatches → Options → Given
given_by matches options = record {
  by_thread = options.by_thread;
  demangle = is_given matches (codes "demangle");
  diff = is_given matches (codes "diff");
  explain = options.explain;
  frames = options.frames;
  json = options.json;
  kernel = is_some options.kernel;
  lines = is_given matches (codes "inlines") || is_given matches (codes "lines");
  speedscope = is_given matches (codes "speedscope");
  sure = options.sure;
  svg = is_given matches (codes "svg");
  title = is_some (word_of matches (codes "title"));
}

-- the rules, of which the first says most
abbrev pub rules : Given → List Rule
rules given =
    (given.demangle, codes "names are demangled by c++filt: framehop-stacks FILE.. | c++filt, and for a picture | framehop-stacks --svg -") ∷
    (given.lines, codes "inlined functions and lines are printed by the script framehop-stacks") ∷
    (given.sure && given.frames, codes "only folded stacks are cut at frames that are not sure") ∷
    (given.kernel && given.explain, codes "frames of the kernel are not explained") ∷
    (given.by_thread && given.frames, codes "each block tells its thread") ∷
    (given.svg && given.frames, codes "a flame graph has no blocks of frames") ∷
    (given.speedscope && (given.frames || given.svg), codes "speedscope reads folded stacks: no blocks of frames, and no picture") ∷
    (given.speedscope && given.diff, codes "speedscope reads one profile, and not two beside one another") ∷
    (given.title && not given.svg && not given.speedscope, codes "a title is that of a flame graph or of a profile: --svg or --speedscope") ∷
    (given.diff && given.frames, codes "only folded stacks are compared, and no blocks of frames") ∷
    (given.json && (given.svg || given.diff || given.speedscope), codes "only folded stacks are drawn and compared, and no JSON") ∷
    (given.json && (given.explain || given.sure || given.kernel), codes "JSON has all frames of the user's side, with how each was found, and no notes") ∷
    []

-- what is said of options, if they do not go together
abbrev pub misuse_of : Given → Option (List ℕ)
misuse_of given = first_said (rules given)

-- ---- by the kind of a file

abbrev pub is_dump : Kind → Bool
is_dump Core = true
is_dump Minidump = true
is_dump kind = false

abbrev pub is_folded : Kind → Bool
is_folded Folded = true
is_folded kind = false

abbrev pub rules_of_kind : Kind → Options → Form → List Rule
rules_of_kind kind options form =
    (is_dump kind && is_drawn form, codes "only recordings and folded stacks are drawn") ∷
    (is_dump kind && is_compared form, codes "only recordings and folded stacks are compared") ∷
    (is_folded kind && is_json form, codes "folded stacks have no addresses, and no JSON") ∷
    (is_dump kind && options.sure, codes "only recordings are folded") ∷
    (is_folded kind && options.frames, codes "folded stacks have no blocks of frames") ∷
    (is_folded kind && options.sure, codes "folded stacks don't say what is sure") ∷
    []

-- what is said of a file of a kind, if it is not printed as it is asked for
abbrev pub misuse_of_kind : Kind → Options → Form → Option (List ℕ)
misuse_of_kind kind options form = first_said (rules_of_kind kind options form)
