-- What filing, updating, removing and compacting leave of a list that ascends.
use Rattle.std.proofs.Common.{◌≡◌, ℕ, zero, suc, ◌+◌, ◌-◌, ◌<◌, ◌≤◌, Bool, true, false, cond, List, [], ◌∷◌, ◌++◌, length, get_or, take, drop, set, Ok, Err, filter, sym, refl, ap, ◌∙◌, subst, ⊎_elim, add-one, arith}
use Rattle.std.specs.List.{insert, remove, AllByRecursion as All}
use Rattle.std.proofs.lemmas.List.Edits.{length-between, length-remove}
use Rattle.std.proofs.lemmas.List.{append-nil, drop_all, take-take, take-append-le, take_at, length-set, length-drop, length-take-le, set_at, get_or_read, get_or-set_same, get_or-set_other}
use Rattle.std.proofs.lemmas.Slice.{between_is, put_mid-rotated}
use Rattle.std.proofs.ByRecursion.{All-get_or, All-from_get_or, all_kept_by, All-weaker}
use Rattle.std.proofs.lemmas.Bool.{cases_Bool, cases_eq, cond-true, cond-false, not-false, lt-ltb}
use Rattle.std.proofs.Math.Bridge.{le_prop}
use borrow.Rule.Slice.PartMut.{put_mid}
use borrow.Rule.Slice.Mut.{set_vals}
use Rattle.ordered.specs.Ranking.{Lawful}
use Rattle.ordered.specs.declared.file.OrderedFile.{OrderedFile}
use Rattle.ordered.specs.Files.{Ascends, place, holds, located, filed, insertion}
use Rattle.ordered.proofs.Order.{same_before, same_after, Ascends-far}

-- a record is filed at its place
pub filed_inserted : {T : Type 0} (before : T → T → Bool) (one : T) (xs : List T) → filed before one xs ≡ insert xs (place before one xs) one
filed_inserted before one [] = refl
filed_inserted before one (x ∷ xs) =
    elim (before x one) as (λ v. cond v (x ∷ filed before one xs) (one ∷ (x ∷ xs)) ≡ insert (x ∷ xs) (cond v (suc (place before one xs)) 0) one)
    [ true ↦ ap (λ l. x ∷ l) (filed_inserted before one xs) | false ↦ refl ]

-- each record comes before all that follow: the same as ascending, in a form for inductions
abbrev pub Chain : {T : Type 0} → (T → T → Bool) → List T → Type 0
Chain before [] = Unit {0}
Chain before (x ∷ xs) = All (λ y. before x y ≡ true) xs × Chain before xs

module _ {T : Type 0} {before : T → T → Bool} {fields : T → List ℕ} (law : Lawful before fields) where
  pub Chain-from_ascends : (xs : List T) → Ascends before xs → Chain before xs
  Chain-from_ascends [] up = tt
  Chain-from_ascends (x ∷ xs) up = (
    All-from_get_or _ xs x (λ i l. Ascends-far law (x ∷ xs) up 0 (suc i) x (omega arith) (omega arith)),
    Chain-from_ascends xs (λ k d l. rw add-one (rw add-one at (up (suc k) d (omega arith)))),
  )

  pub Ascends-from_chain : (xs : List T) → Chain before xs → Ascends before xs
  Ascends-from_chain [] ch k d l = absurd (omega arith)
  Ascends-from_chain (x ∷ xs) ch zero d l = All-get_or _ xs 0 d (omega arith) ch.0
  Ascends-from_chain (x ∷ xs) ch (suc k) d l = rw add-one (rw add-one at (Ascends-from_chain xs ch.1 k d (omega arith)))

  All-filed : (P : T → Type 0) (one : T) (xs : List T) → P one → All P xs → All P (filed before one xs)
  All-filed P one [] h a = (h, tt)
  All-filed P one (x ∷ xs) h a =
      elim (before x one) as (λ v. All P (cond v (x ∷ filed before one xs) (one ∷ (x ∷ xs))))
      [ true ↦ (a.0, All-filed P one xs h a.1) | false ↦ (h, a) ]

  -- a record of a rank that is not there goes between those before and those after it
  Chain-filed : (one : T) (xs : List T) → holds before one xs ≡ false → Chain before xs → Chain before (filed before one xs)
  Chain-filed one [] h ch = (tt, tt)
  Chain-filed one (x ∷ xs) h ch =
      ⊎_elim
      (λ e. rw e ((All-filed _ one xs e ch.0, Chain-filed one xs (rw e at h) ch.1)))
      (λ e.
      let after : before one x ≡ true = not-false _ (rw e at h) in
      rw e (((after, All-weaker _ _ (λ y b. law.trans _ _ _ after b) xs ch.0), ch)))
      (cases_Bool (before x one))

  pub Ascends-filed : (one : T) (xs : List T) → holds before one xs ≡ false → Ascends before xs → Ascends before (filed before one xs)
  Ascends-filed one xs h up = Ascends-from_chain _ (Chain-filed one xs h (Chain-from_ascends xs up))

  Chain-kept_by : (p : T → Bool) (xs : List T) → Chain before xs → Chain before (filter p xs)
  Chain-kept_by p [] ch = tt
  Chain-kept_by p (x ∷ xs) ch =
      elim (p x) as (λ v. Chain before (cond v (x ∷ filter p xs) (filter p xs)))
      [ true ↦ (all_kept_by p _ xs ch.0, Chain-kept_by p xs ch.1) | false ↦ Chain-kept_by p xs ch.1 ]

  pub Ascends-kept_by : (p : T → Bool) (xs : List T) → Ascends before xs → Ascends before (filter p xs)
  Ascends-kept_by p xs up = Ascends-from_chain _ (Chain-kept_by p xs (Chain-from_ascends xs up))

  -- a record of the same rank may take another's place
  pub Ascends-set : (xs : List T) (i : ℕ) (x y : T) → i < length xs → x ≡ get_or xs i x → fields x ≡ fields y → Ascends before xs → Ascends before (set xs i y)
  Ascends-set xs i x y l read e up k d n =
      let long : length (set xs i y) ≡ length xs = length-set xs i y in
      let here : before (get_or xs k d) (get_or xs (k + 1) d) ≡ true = up k d (omega arith) in
      let at_i : x ≡ get_or xs i d = get_or_read xs i x l read d in
      ⊎_elim
      (λ eq.
      let first : get_or (set xs i y) k d ≡ y = ap (λ j. get_or (set xs i y) j d) eq ∙ get_or-set_same xs i y d l in
      let second : get_or (set xs i y) (k + 1) d ≡ get_or xs (k + 1) d = get_or-set_other xs i (k + 1) y d (omega arith) in
      rw (first, second) (same_before law x y _ e (subst (λ z. before z (get_or xs (k + 1) d) ≡ true) (ap (λ j. get_or xs j d) eq ∙ sym at_i) here)))
      (λ ne.
      let first : get_or (set xs i y) k d ≡ get_or xs k d = get_or-set_other xs i k y d ne in
      ⊎_elim
      (λ eq.
      let second : get_or (set xs i y) (k + 1) d ≡ y = ap (λ j. get_or (set xs i y) j d) eq ∙ get_or-set_same xs i y d l in
      rw (first, second) (same_after law x y _ e (subst (λ z. before (get_or xs k d) z ≡ true) (ap (λ j. get_or xs j d) eq ∙ sym at_i) here)))
      (λ other. let second : get_or (set xs i y) (k + 1) d ≡ get_or xs (k + 1) d = get_or-set_other xs i (k + 1) y d other in rw (first, second) here)
      (cases_eq (k + 1) i))
      (cases_eq k i)

  All-removed : (P : T → Type 0) (xs : List T) (i : ℕ) → All P xs → All P (remove xs i)
  All-removed P [] zero a = tt
  All-removed P [] (suc i) a = tt
  All-removed P (x ∷ xs) zero a = a.1
  All-removed P (x ∷ xs) (suc i) a = (a.0, All-removed P xs i a.1)

  Chain-removed : (xs : List T) (i : ℕ) → Chain before xs → Chain before (remove xs i)
  Chain-removed [] zero ch = tt
  Chain-removed [] (suc i) ch = tt
  Chain-removed (x ∷ xs) zero ch = ch.1
  Chain-removed (x ∷ xs) (suc i) ch = (All-removed _ xs i ch.0, Chain-removed xs i ch.1)

  pub Ascends-removed : (xs : List T) (i : ℕ) → Ascends before xs → Ascends before (remove xs i)
  Ascends-removed xs i up = Ascends-from_chain _ (Chain-removed xs i (Chain-from_ascends xs up))

-- a rank that is not there, at the place where it would go
pub located_err : {T : Type 0} (before : T → T → Bool) (key : T) (xs : List T) (at : ℕ) → Err at ≡ located before key xs → (holds before key xs ≡ false) × (at ≡ place before key xs)
located_err before key xs at e =
    ⊎_elim
    (λ h. absurd (let no_Ok : Err at ≡ Ok (place before key xs) = e ∙ cond-true _ _ _ h in grind arith))
    (λ h. (h, let same : Err at ≡ Err (place before key xs) = e ∙ cond-false _ _ _ h in grind arith))
    (cases_Bool (holds before key xs))

-- an insertion that is carried out
pub insertion_ok : {T : Type 0} (before : T → T → Bool) (n : ℕ) (xs : List T) (one : T) → holds before one xs ≡ false → length xs < n → insertion before n xs one ≡ Ok (filed before one xs)
insertion_ok before n xs one h l = cond-false _ _ _ h ∙ cond-true _ _ _ (lt-ltb _ _ l)

one_element : {T : Type 0} (xs : List T) → length xs ≡ 1 → (z : T) × (xs ≡ z ∷ [])
one_element [] e = absurd (omega arith)
one_element (x ∷ []) e = (x, refl)
one_element (x ∷ (y ∷ xs)) e = absurd (omega arith)

-- a list turned by one, its last element first
turned_by_one : {T : Type 0} (part q : List T) (n : ℕ) → length part ≡ n + 1 → take n part ≡ q → (z : T) × (drop (length part - 1) part ++ take (length part - 1) part ≡ z ∷ q)
turned_by_one part q n long rest =
    let last = one_element (drop (length part - 1) part) (length-drop (length part - 1) part ∙ omega arith) in
    let shorter : length part - 1 ≡ n = omega arith in
    (last.0, (λ i. last.1 i ++ take (shorter i) part) ∙ ap (λ t. last.0 ∷ t) rest)

-- the records from `at` on turned by one, and one written over the first of them
pub put_in : {T : Type 0} (xs : List T) (at : ℕ) (one : T) (ys : List T) → at < length xs
    → ys ≡ drop (length (take (length xs - at) (drop at xs)) - 1) (take (length xs - at) (drop at xs)) ++ take (length (take (length xs - at) (drop at xs)) - 1) (take (length xs - at) (drop at xs))
    → set (put_mid at (length xs - at) xs ys) at one ≡ insert (take (length xs - 1) xs) at one
put_in xs at one ys l turned =
    let n = length xs - 1 in
    let q = drop at (take n xs) in
    let long : length (take (length xs - at) (drop at xs)) ≡ n - at + 1 = length-between xs at (length xs) (omega arith) ∙ omega arith in
    let rest : take (n - at) (take (length xs - at) (drop at xs)) ≡ q = take-take (n - at) (length xs - at) (drop at xs) (omega arith) ∙ between_is xs at n in
    let round = turned_by_one (take (length xs - at) (drop at xs)) q (n - at) long rest in
    let none : drop (length xs - at) (drop at xs) ≡ [] = drop_all (length xs - at) (drop at xs) (omega (arith, length-drop at xs)) in
    let whole : put_mid at (length xs - at) xs ys ≡ take at xs ++ (round.0 ∷ q) =
    ◌∙◌ {b = take at xs ++ ((round.0 ∷ q) ++ [])} (λ i. take at xs ++ ((turned ∙ round.1) i ++ none i)) (ap (λ t. take at xs ++ t) (append-nil (round.0 ∷ q))) in
    ap (λ t. set t at one) whole
    ∙ set_at (take at xs) round.0 q one at (length-take-le at xs (omega arith))
    ∙ ap (λ t. t ++ (one ∷ q)) (sym (take-take at n xs (omega arith)))

-- the record at `at` turned behind the others, and the others alone
pub take_out : {T : Type 0} (xs : List T) (at : ℕ) (ys : List T) → at < length xs
    → ys ≡ drop 1 (take (length xs - at) (drop at xs)) ++ take 1 (take (length xs - at) (drop at xs))
    → take (length xs - 1) (put_mid at (length xs - at) xs ys) ≡ remove xs at
take_out [] at ys l turned = absurd (omega arith)
take_out (x ∷ xs) at ys l turned =
    ap (take (length (x ∷ xs) - 1)) (put_mid-rotated at _ (x ∷ xs) ys x l (omega arith) turned)
    ∙ take_at (remove (x ∷ xs) at) (get_or (x ∷ xs) at x ∷ []) (length (x ∷ xs) - 1) (omega (arith, length-remove (x ∷ xs) at l))

-- the memory after a record was put in among the first n records of it
pub filed_in_memory : {T : Type 0} (before : T → T → Bool) (one : T) (xs : List T) (n at : ℕ) (ys : List T) → n < length xs → at ≡ place before one (take n xs) → length ys ≡ n + 1
    → ys ≡ insert (take (length (take (n + 1) xs) - 1) (take (n + 1) xs)) at one → take (n + 1) (ys ++ drop (n + 1) xs) ≡ filed before one (take n xs)
filed_in_memory before one xs n at ys l is long put =
    let first : take (length (take (n + 1) xs) - 1) (take (n + 1) xs) ≡ take n xs =
    ap (λ k. take k (take (n + 1) xs)) (omega (arith, length-take-le (n + 1) xs)) ∙ take-take n (n + 1) xs (omega arith) in
    take_at ys (drop (n + 1) xs) (n + 1) long ∙ put ∙ (λ i. insert (first i) (is i) one) ∙ sym (filed_inserted before one (take n xs))

-- the memory after a record was taken out of the first n records of it
pub removed_in_memory : {T : Type 0} (xs : List T) (n at : ℕ) (ys : List T) → n ≤ length xs → length ys ≡ n → take (length (take n xs) - 1) ys ≡ remove (take n xs) at → take (n - 1) (ys ++ drop n xs) ≡ remove (take n xs) at
removed_in_memory xs n at ys l long out =
    take-append-le (n - 1) ys (drop n xs) (omega arith) ∙ ap (λ k. take (k - 1) ys) (sym (length-take-le n xs l)) ∙ out

-- a file whose memory holds what it held, and which counts as many, is the same file
pub same_file : {T : Type 0} (f : OrderedFile T) (m : List T) (n : ℕ) (s : n ≤ length m) → m ≡ f.memory.now → n ≡ f.count → record { memory = set_vals m f.memory; count = n; sized = s } ≡ f
same_file {T} f m n s held counted =
    subst (λ l. (q : n ≤ length l) → record { memory = set_vals l f.memory; count = n; sized = q } ≡ f) (sym held)
    (subst (λ k. (q : k ≤ length f.memory.now) → record { memory = f.memory; count = k; sized = q } ≡ f) (sym counted)
    (λ q. ap (λ p. record { memory = f.memory; count = f.count; sized = p }) (le_prop q f.sized)))
    s
