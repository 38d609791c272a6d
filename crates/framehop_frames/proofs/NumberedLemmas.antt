-- The numbered lines of frames, one after another.
use Rattle.std.proofs.Common.{◌≡◌, ℕ, ◌+◌, ◌<◌, List, [], ◌∷◌, ◌++◌, map, take, length, get_or, ap, sym, ◌∙◌, append_assoc, append-nil, arith}
use Rattle.std.proofs.lemmas.List.{take_more, map-append, length-map, length-take-le}
use Rattle.framehop_frames.specs.Line.{ShownFrame}
use Rattle.framehop_frames.specs.Numbered.{number_text, numbered_from}

module _ (line : ShownFrame → List ℕ) where
  numbered-append : (n : ℕ) (frames : List ShownFrame) (frame : ShownFrame)
      → numbered_from n line (frames ++ frame ∷ []) ≡ numbered_from n line frames ++ (number_text (n + length frames) ++ line frame)
  numbered-append n [] frame =
      append-nil (number_text n ++ line frame) ∙ ap (λ m. number_text m ++ line frame) (omega arith)
  numbered-append n (first ∷ frames) frame =
      ap (λ rest. (number_text n ++ line first) ++ rest)
      (numbered-append (n + 1) frames frame ∙ ap (λ m. numbered_from (n + 1) line frames ++ (number_text m ++ line frame)) (omega arith))
      ∙ sym (append_assoc (number_text n ++ line first) (numbered_from (n + 1) line frames) (number_text (n + length (first ∷ frames)) ++ line frame))

  -- one more
  pub numbered-next : {A : Type 0} (view : A → ShownFrame) (items : List A) (i : ℕ) (d : A) → i < length items
      → (before old numbered all : List ℕ) → old ≡ before ++ numbered_from 0 line (map view (take i items))
      → numbered ≡ old ++ number_text i → all ≡ numbered ++ line (view (get_or items i d))
      → all ≡ before ++ numbered_from 0 line (map view (take (i + 1) items))
  numbered-next view items i d within before old numbered all so_far number is =
      let size : length (map view (take i items)) ≡ i = length-map (take i items) view ∙ length-take-le i items (omega (arith, within)) in
      let count : 0 + length (map view (take i items)) ≡ i = omega (arith, size) in
      is ∙ ap (λ text. text ++ line (view (get_or items i d))) (number ∙ ap (λ text. text ++ number_text i) so_far)
      ∙ append_assoc (before ++ numbered_from 0 line (map view (take i items))) (number_text i) (line (view (get_or items i d)))
      ∙ append_assoc before (numbered_from 0 line (map view (take i items))) (number_text i ++ line (view (get_or items i d)))
      ∙ ap (λ m. before ++ (numbered_from 0 line (map view (take i items)) ++ (number_text m ++ line (view (get_or items i d))))) (sym count)
      ∙ ap (λ rest. before ++ rest)
      (sym (numbered-append 0 (map view (take i items)) (view (get_or items i d)))
      ∙ ap (numbered_from 0 line) (sym (map-append view (take i items) (get_or items i d ∷ []))
      ∙ ap (map view) (sym (take_more items i d within))))
