-- Lists that are read item by item.
use Rattle.std.proofs.Common.{◌≡◌, ℕ, suc, ◌+◌, ◌-◌, ◌<◌, List, [], ◌∷◌, ◌++◌, map, take, drop, length, Option, Some, None, Result, Ok, Err, Vec, refl, ap, sym, ◌∙◌, get_or, arith}
use Rattle.std.proofs.Math.Seq.{drop-cons, take-length}
use Rattle.std.proofs.lemmas.List.{map-append, length-drop}
use Rattle.std.specs.declared.alloc.Global.{Global}
use Rattle.framehop_bytes.specs.Bytes.{◌>>=◌}
use Rattle.framehop_dump_files.specs.declared.coredump.error.CoreFileError.{CoreFileError}
use Rattle.framehop_dump_files.specs.declared.coredump.error.CoreFileError.TheVariants.{OutOfMemory}
use Rattle.framehop_dump_files.specs.Coredump.Refusal.{IsErrorOf}
use Rattle.framehop_bytes.specs.Gathered.{IsGathered}

-- what was read before, with what comes after it
abbrev pub prepended : {B : Type 0} → List B → Result (List B) CoreFileError → Result (List B) CoreFileError
prepended before (Ok others) = Ok (before ++ others)
prepended before (Err error) = Err error

append-none : {A : Type 0} (before : List A) → before ++ [] ≡ before
append-none [] = refl
append-none (x ∷ before) = ap (λ rest. x ∷ rest) (append-none before)

pub append-assoc : {A : Type 0} (a b c : List A) → a ++ (b ++ c) ≡ (a ++ b) ++ c
append-assoc [] b c = refl
append-assoc (x ∷ a) b c = ap (λ rest. x ∷ rest) (append-assoc a b c)

prepended-more : {B : Type 0} (before more : List B) (rest : Result (List B) CoreFileError) → prepended before (rest >>= (λ others. Ok (more ++ others))) ≡ prepended (before ++ more) rest
prepended-more before more (Ok others) = ap (λ list. Ok list) (append-assoc before more others)
prepended-more before more (Err error) = refl

-- nothing was read before
pub nothing-before : {B : Type 0} (all : Result (List B) CoreFileError) → all ≡ prepended [] all
nothing-before (Ok others) = refl
nothing-before (Err error) = refl

-- some are read, and others come after them
pub read-more : {A B : Type 0} (view : A → B) (all left rest : Result (List B) CoreFileError) (before more : List A) → all ≡ prepended (map view before) left → left ≡ rest >>= (λ others. Ok (map view more ++ others)) → all ≡ prepended (map view (before ++ more)) rest
read-more view all left rest before more so_far is =
    so_far ∙ ap (prepended (map view before)) is ∙ prepended-more (map view before) (map view more) rest
    ∙ ap (λ list. prepended list rest) (sym (map-append view before more))

-- the next is refused
pub read-refused : {B : Type 0} (all left : Result (List B) CoreFileError) (before : List B) (error : CoreFileError) → all ≡ prepended before left → left ≡ Err error → all ≡ Err error
read-refused all left before error so_far is = so_far ∙ ap (prepended before) is

-- none is left
pub read-all : {B : Type 0} (all left : Result (List B) CoreFileError) (before : List B) → all ≡ prepended before left → left ≡ Ok [] → all ≡ Ok before
read-all all left before so_far is = so_far ∙ ap (prepended before) is ∙ ap (λ list. Ok list) (append-none before)

-- the error that is given is the one that is due
pub refusal-due : {B : Type 0} (all : Result (List B) CoreFileError) (error : CoreFileError) → all ≡ Err error → IsErrorOf all error
refusal-due all error e = rw e refl

pub memory-due : {B : Type 0} (all : Result (List B) CoreFileError) (list : List B) → all ≡ Ok list → IsErrorOf all OutOfMemory
memory-due all list e = rw e refl

-- the item at an index, and those after it
pub items-are : {A : Type 0} (items : List A) (i : ℕ) (default : A) → i < length items → drop i items ≡ get_or items i default ∷ drop (i + 1) items
items-are items i default below =
    drop-cons items i default below
    ∙ ap (λ j. get_or items i default ∷ drop j items) (let more : suc i ≡ i + 1 = omega arith in more)

pub next-is : {A B : Type 0} (view : A → B) (items : List A) (i : ℕ) (default : A) → i < length items → map view (drop i items) ≡ view (get_or items i default) ∷ map view (drop (i + 1) items)
next-is view items i default below = ap (map view) (items-are items i default below)

-- what is left of a list after so many items, as a slice to the end
pub all-after : {A : Type 0} (items : List A) (k : ℕ) → drop k items ≡ take (length items - k) (drop k items)
all-after items k = sym (ap (λ n. take n (drop k items)) (sym (length-drop k items)) ∙ take-length (drop k items))

gathered-items : {A : Type 0} (before : List A) (gathered : Option (Vec A Global)) (items : Vec A Global) → IsGathered before gathered → gathered ≡ Some items → items.items ≡ before
gathered-items before (Some made) items all is =
    let same : made ≡ items = cc in sym (ap (λ (vec : Vec _ Global). vec.items) same) ∙ all
gathered-items before None items all is = cc

-- none is left, and the list was made
pub made-all : {A B : Type 0} (view : A → B) (all left : Result (List B) CoreFileError) (before : List A) (gathered : Option (Vec A Global)) (items : Vec A Global) → all ≡ prepended (map view before) left → left ≡ Ok [] → IsGathered before gathered → gathered ≡ Some items → all ≡ Ok (map view items.items)
made-all view all left before gathered items so_far none whole is =
    read-all all left (map view before) so_far none
    ∙ ap (λ list. Ok (map view list)) (sym (gathered-items before gathered items whole is))

-- none is left, and an allocation failed
pub given-up : {B : Type 0} (all left : Result (List B) CoreFileError) (before : List B) → all ≡ prepended before left → left ≡ Ok [] → IsErrorOf all OutOfMemory
given-up all left before so_far none = memory-due all before (read-all all left before so_far none)
