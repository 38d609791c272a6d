-- The blocks of threads, one after another.
use Rattle.std.proofs.Common.{◌≡◌, refl, ℕ, List, [], ◌∷◌, ◌++◌, Bool, true, false, ap, ◌∙◌, append-nil}
use Rattle.framehop_processes.specs.declared.mapping.Mapping.{Mapping}
use Rattle.framehop_processes.specs.declared.files.Files.{Files}
use Rattle.framehop_dumps.specs.Dump.{DumpView}
use Rattle.framehop_dump_stacks.specs.Report.{texts_of}
use Rattle.framehop_dump_stacks.specs.Text.{block_text, blocks_text}
use Rattle.framehop_dump_stacks.specs.Walked.{WalkedThread}

module _ (explain : Bool) (dump : DumpView) (files : Files) (mappings : List Mapping) where
  blocks : (later : Bool) (threads : List WalkedThread)
      → texts_of (λ later walked. block_text explain dump files mappings walked) later threads
      ≡ blocks_text explain dump files mappings threads
  blocks later [] = refl
  blocks later (walked ∷ others) = ap (λ rest. block_text explain dump files mappings walked ++ rest) (blocks true others)

  pub is-by-parts : (threads : List WalkedThread) (head : List ℕ) → head ≡ []
      → head ++ texts_of (λ later walked. block_text explain dump files mappings walked) false threads ++ []
      ≡ blocks_text explain dump files mappings threads
  is-by-parts threads head is =
      let texts = texts_of (λ later walked. block_text explain dump files mappings walked) false threads in
      ap (λ front. front ++ texts ++ []) is ∙ append-nil texts ∙ blocks false threads
