-- How stacks are printed, and by which files, by the options of the command line.
use Rattle.std.specs.Prelude.{ℕ, ◌^◌, ◌||◌, List, [], ◌∷◌, codes, Option, Some, None, option_map, if◌then◌else◌}
use Rattle.std.specs.Borrow.{Bor}
use Rattle.clap.specs.declared.parser.matches.ArgMatches.{ArgMatches}
use Rattle.framehop_perf_stacks.specs.declared.kernel.KernelNames.{KernelNames}
use Rattle.framehop_perf_stacks.specs.declared.run.Options.{Options}
use Rattle.framehop_stacks_cli.specs.CommandLine.{word_of, words_of, is_given, number_below}

-- the most frames of a stack: 512, or the number below 2^32 that is asked for, if it is one
abbrev pub limit_by : Option (List ℕ) → Option ℕ
limit_by None = Some 512
limit_by (Some word) = number_below (2 ^ 32) word

-- with these names of the kernel's functions; notes are printed in blocks
abbrev pub options_with : ArgMatches → Bor KernelNames → ℕ → Options
options_with matches names limit = record {
  frames = is_given matches (codes "explain") || is_given matches (codes "frames");
  explain = is_given matches (codes "explain");
  sure = is_given matches (codes "sure");
  limit = limit;
  by_thread = is_given matches (codes "by-thread");
  kernel = if is_given matches (codes "kernel") then Some names else None;
  json = is_given matches (codes "json");
}

abbrev pub options_of : ArgMatches → Bor KernelNames → Option Options
options_of matches names = option_map (options_with matches names) (limit_by (word_of matches (codes "limit")))

-- The folders below which mapped files are looked for: that of no name, which is this machine's root, where none is named.
abbrev pub roots_by : List (List ℕ) → List (List ℕ)
roots_by [] = [] ∷ []
roots_by (folder ∷ folders) = folder ∷ folders

abbrev pub roots_of : ArgMatches → List (List ℕ)
roots_of matches = roots_by (words_of matches (codes "root"))

-- The folder of the maps of JIT compilers: the one that is named; else /tmp, where the files that are looked for are those of
-- this machine.
abbrev pub perf_map_by : Option (List ℕ) → Option (List ℕ) → Option (List ℕ)
perf_map_by (Some folder) root = Some folder
perf_map_by None None = Some (codes "/tmp")
perf_map_by None (Some root) = None

abbrev pub perf_map_of : ArgMatches → Option (List ℕ)
perf_map_of matches = perf_map_by (word_of matches (codes "perf-map")) (word_of matches (codes "root"))
