-- Mapped files that are read one by one.
use Rattle.std.proofs.Common.{◌≡◌, ℕ, List, [], ◌∷◌, ◌++◌, Ok, Err, ap, ◌∙◌}
use Rattle.framehop_bytes.specs.Bytes.{◌>>=◌}
use Rattle.framehop_dump_files.specs.declared.coredump.error.CoreFileError.{CoreFileError}
use Rattle.framehop_dump_files.specs.Coredump.MappedFile.{MappedFileView, path_at, mapped_file_of, files_of}

module _ (offset page_size : ℕ) (left entries : List (List ℕ)) (entry paths : List ℕ) (is : left ≡ entry ∷ entries) where
  pub files-more : (path later : List ℕ) (file : MappedFileView) → path_at offset paths ≡ Ok (path, later) → mapped_file_of offset page_size entry path ≡ Ok file → files_of offset page_size left paths ≡ files_of offset page_size entries later >>= (λ others. Ok ((file ∷ []) ++ others))
  unfolding files_of
  files-more path later file read made =
      ap (λ list. files_of offset page_size list paths) is
      ∙ ap (λ r. r >>= (λ p. mapped_file_of offset page_size entry p.0 >>= (λ f. files_of offset page_size entries p.1 >>= (λ others. Ok (f ∷ others))))) read
      ∙ ap (λ r. r >>= (λ f. files_of offset page_size entries later >>= (λ others. Ok (f ∷ others)))) made

  pub files-no-path : (error : CoreFileError) → path_at offset paths ≡ Err error → files_of offset page_size left paths ≡ Err error
  unfolding files_of
  files-no-path error read =
      ap (λ list. files_of offset page_size list paths) is
      ∙ ap (λ r. r >>= (λ p. mapped_file_of offset page_size entry p.0 >>= (λ f. files_of offset page_size entries p.1 >>= (λ others. Ok (f ∷ others))))) read

  pub files-refused : (path later : List ℕ) (error : CoreFileError) → path_at offset paths ≡ Ok (path, later) → mapped_file_of offset page_size entry path ≡ Err error → files_of offset page_size left paths ≡ Err error
  unfolding files_of
  files-refused path later error read made =
      ap (λ list. files_of offset page_size list paths) is
      ∙ ap (λ r. r >>= (λ p. mapped_file_of offset page_size entry p.0 >>= (λ f. files_of offset page_size entries p.1 >>= (λ others. Ok (f ∷ others))))) read
      ∙ ap (λ r. r >>= (λ f. files_of offset page_size entries later >>= (λ others. Ok (f ∷ others)))) made

pub files-none : (offset page_size : ℕ) (left : List (List ℕ)) (paths : List ℕ) → left ≡ [] → files_of offset page_size left paths ≡ Ok []
unfolding files_of
files-none offset page_size left paths is = ap (λ list. files_of offset page_size list paths) is
