-- Records in strictly ascending order, as lists: which are in use, where a record's place is, and what each call leaves.
-- `before` is the order of the ranking throughout.
use Rattle.std.specs.Prelude.{◌≡◌, ℕ, suc, ◌+◌, ◌<◌, ◌≤◌, Bool, true, false, cond, not, List, [], ◌∷◌, length, take, Ok, Err, filter, Result, nat_lt, slice_index_or}
use Rattle.ordered.specs.declared.file.OrderedFile.{OrderedFile}
use Rattle.ordered.specs.declared.file.InsertFault.{InsertFault}
use Rattle.ordered.specs.declared.file.InsertFault.TheVariants.{Present, Full}

-- the records in use: those at the front of the memory, as many as the file counts
abbrev pub in_use : {T : Type 0} → OrderedFile T → List T
in_use f = take f.count f.memory.now

-- how many records the memory has a place for
abbrev pub room : {T : Type 0} → OrderedFile T → ℕ
room f = length f.memory.now

-- each record comes before the next one
abbrev pub Ascends : {T : Type 0} → (T → T → Bool) → List T → Type 0
Ascends {T} before xs = (k : ℕ) (d : T) → k + 1 < length xs → before (slice_index_or xs k d) (slice_index_or xs (k + 1) d) ≡ true

-- how many records stand before the place of the key
abbrev pub place : {T : Type 0} → (T → T → Bool) → T → List T → ℕ
place before key [] = 0
place before key (x ∷ xs) = cond (before x key) (suc (place before key xs)) 0

-- whether a record of the key's rank stands at that place
abbrev pub holds : {T : Type 0} → (T → T → Bool) → T → List T → Bool
holds before key [] = false
holds before key (x ∷ xs) = cond (before x key) (holds before key xs) (not (before key x))

-- the place of the key: `Ok` where its rank is there, `Err` where it would have to go
abbrev pub located : {T : Type 0} → (T → T → Bool) → T → List T → Result ℕ ℕ
located before key xs = cond (holds before key xs) (Ok (place before key xs)) (Err (place before key xs))

-- what the place tells, in words: the record there has the key's rank; or none has it, since all that stand below come before the
-- key and all from there on come after it
abbrev pub ToldByPlace : {T : Type 0} → (T → T → Bool) → (T → List ℕ) → T → List T → Result ℕ ℕ → Type 0
ToldByPlace {T} before fields key xs (Ok i) = (i < length xs) × ((d : T) → fields (slice_index_or xs i d) ≡ fields key)
ToldByPlace {T} before fields key xs (Err i) =
    (i ≤ length xs) × ((k : ℕ) (d : T) → k < i → before (slice_index_or xs k d) key ≡ true) × ((k : ℕ) (d : T) → i ≤ k → k < length xs → before key (slice_index_or xs k d) ≡ true)

-- the records with one more, in its place
abbrev pub filed : {T : Type 0} → (T → T → Bool) → T → List T → List T
filed before one [] = one ∷ []
filed before one (x ∷ xs) = cond (before x one) (x ∷ filed before one xs) (one ∷ (x ∷ xs))

-- an insertion into records for which there are n places: refused where the rank is there already, then where no place is left
abbrev pub insertion : {T : Type 0} → (T → T → Bool) → ℕ → List T → T → Result (List T) InsertFault
insertion before n xs one = cond (holds before one xs) (Err Present) (cond (nat_lt (length xs) n) (Ok (filed before one xs)) (Err Full))

-- a record in use stands at the place, and has the rank of the other
abbrev pub SameRank : {T : Type 0} → (T → List ℕ) → List T → ℕ → T → Type 0
SameRank fields xs at one = (at < length xs) × (fields (slice_index_or xs at one) ≡ fields one)

-- the records that are not void, in their order
abbrev pub standing : {T : Type 0} → (T → Bool) → List T → List T
standing void xs = filter (λ x. not (void x)) xs

-- what a call answers, and which records it leaves: those of its outcome, or all as they were where it was refused
abbrev pub told : {V E : Type 0} → Result V E → Result (Unit {0}) E
told (Ok v) = Ok tt
told (Err e) = Err e

abbrev pub left : {V E : Type 0} → V → Result V E → V
left v (Ok w) = w
left v (Err e) = v
