-- Which samples of recordings are asked for, by the options of the command line.
use Rattle.std.specs.Prelude.{ℕ, ◌≡◌, ◌^◌, List, map, codes, Option, Some, None, unwrap_or}
use Rattle.clap.specs.declared.parser.matches.ArgMatches.{ArgMatches}
use Rattle.framehop_perf_stacks.specs.Window.{window_of}
use Rattle.framehop_perf_stacks.specs.declared.choice.Choice.{Choice}
use Rattle.framehop_perf_stacks.specs.declared.window.Window.{Window}
use Rattle.framehop_stacks_cli.specs.CommandLine.{word_of, words_of, numbers_below}
use Rattle.framehop_stacks_cli.specs.declared.samples.Asked.{Asked}

-- samples of threads of these names, of these processes, threads and events, and of these times
pub record Samples : Type 0 where
  pub commands : List (List ℕ)
  pub processes : List ℕ
  pub threads : List ℕ
  pub events : List (List ℕ)
  pub window : Window

abbrev pub samples_in : Asked → Samples
samples_in asked = record {
  commands = map (λ name. name.now) asked.commands.items;
  processes = asked.processes.items;
  threads = asked.threads.items;
  events = map (λ event. event.now) asked.events.items;
  window = asked.window;
}

-- the times of `--time`: without it neither is a bound
abbrev pub window_asked : ArgMatches → Option Window
window_asked matches = window_of (unwrap_or (word_of matches (codes "time")) (codes ","))

-- `--comm`, `--pid`, `--tid`, `--event` and `--time`, where processes and threads are numbers below 2^32, and times are times
abbrev pub samples_by : ArgMatches → Option Window → Option (List ℕ) → Option (List ℕ) → Option Samples
samples_by matches (Some window) (Some processes) (Some threads) = Some (record {
  commands = words_of matches (codes "comm");
  processes = processes;
  threads = threads;
  events = words_of matches (codes "event");
  window = window;
})
samples_by matches window processes threads = None

abbrev pub samples_of : ArgMatches → Option Samples
samples_of matches = samples_by matches (window_asked matches)
    (numbers_below (2 ^ 32) (words_of matches (codes "pid"))) (numbers_below (2 ^ 32) (words_of matches (codes "tid")))

-- what is asked for is chosen, by the numbers that its events have in a recording
pub record IsChoiceOf (samples : Samples) (events : List ℕ) (choice : Choice) : Type 0 where
  pub commands : map (λ name. name.now) choice.commands.now ≡ samples.commands
  pub processes : choice.processes.now ≡ samples.processes
  pub threads : choice.threads.now ≡ samples.threads
  pub numbers : choice.events.now ≡ events
  pub window : choice.window ≡ samples.window
