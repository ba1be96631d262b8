-- Where a key's place is in a list that ascends, and what the library's search by halving tells of it.
use Rattle.std.proofs.Common.{◌≡◌, ◌⊎◌, ℕ, zero, suc, ◌<◌, ◌≤◌, Bool, true, false, cond, not, List, [], ◌∷◌, length, get_or, Ok, Err, Result, Ordering, Less, Equal, Greater, sym, refl, ap, ◌∙◌, subst, inl, inr, ⊎_elim, arith, MatchResult}
use Rattle.std.specs.Ordering.{MatchOrdering, ordering_index}
use Rattle.std.specs.List.Sorted.{IsNonDecreasingBy, IsBinarySearchResult}
use Rattle.std.proofs.lemmas.Cmp.{by_ranked}
use Rattle.std.proofs.lemmas.Bool.{both_ways, cases_Bool, cases_lt, cases_order, cond-true, cond-false, cond_both, not-true, not-false}
use Rattle.ordered.specs.Ranking.{Lawful}
use Rattle.ordered.specs.Files.{Ascends, place, holds, located, ToldByPlace}
use Rattle.ordered.proofs.Order.{same_not_before, before_not_after, same_from_neither, same_before, same_after, Ascends-far}

-- everything below the place comes before the key, and nothing from it on does
pub record Parts {T : Type 0} (before : T → T → Bool) (key : T) (xs : List T) (at : ℕ) : Type 0 where
  pub below : (k : ℕ) (d : T) → k < at → before (get_or xs k d) key ≡ true
  pub above : (k : ℕ) (d : T) → at ≤ k → k < length xs → before (get_or xs k d) key ≡ false

-- how a record ranks against the key
abbrev pub against : {T : Type 0} → (T → T → Bool) → T → T → Ordering
against before key x = cond (before x key) Less (cond (before key x) Greater Equal)

-- no other place parts the list so
pub place_parts : {T : Type 0} (before : T → T → Bool) (key : T) (xs : List T) (p : ℕ) → p ≤ length xs → Parts before key xs p → p ≡ place before key xs
place_parts before key [] p l b = omega arith
place_parts before key (x ∷ xs) zero l b = sym (cond-false (before x key) _ _ (b.above 0 x (omega arith) (omega arith)))
place_parts before key (x ∷ xs) (suc p) l b =
    ap suc (place_parts before key xs p (omega arith) (record { below = λ k d h. b.below (suc k) d (omega arith); above = λ k d h n. b.above (suc k) d (omega arith) (omega arith) }))
    ∙ sym (cond-true (before x key) _ _ (b.below 0 x (omega arith)))

-- whether the key's rank is there is told by the record at its place
pub holds-place : {T : Type 0} (before : T → T → Bool) (key : T) (xs : List T) (d : T) → place before key xs < length xs → holds before key xs ≡ not (before key (get_or xs (place before key xs) d))
holds-place before key [] d = λ l. absurd (omega arith)
holds-place before key (x ∷ xs) d =
    elim (before x key) as (λ v. cond v (suc (place before key xs)) 0 < suc (length xs) → cond v (holds before key xs) (not (before key x)) ≡ not (before key (get_or (x ∷ xs) (cond v (suc (place before key xs)) 0) d)))
    [ true ↦ λ l. holds-place before key xs d (omega arith) | false ↦ λ l. refl ]

pub holds_none : {T : Type 0} (before : T → T → Bool) (key : T) (xs : List T) → length xs ≤ place before key xs → holds before key xs ≡ false
holds_none before key [] = λ l. refl
holds_none before key (x ∷ xs) =
    elim (before x key) as (λ v. suc (length xs) ≤ cond v (suc (place before key xs)) 0 → cond v (holds before key xs) (not (before key x)) ≡ false)
    [ true ↦ λ l. holds_none before key xs (omega arith) | false ↦ λ l. absurd (omega arith) ]

-- the record at the key's place does not come before it
pub place_after : {T : Type 0} (before : T → T → Bool) (key : T) (xs : List T) (d : T) → place before key xs < length xs → before (get_or xs (place before key xs) d) key ≡ false
place_after before key [] d = λ l. absurd (omega arith)
place_after before key (x ∷ xs) d =
    ⊎_elim
    (λ e. rw e (λ l. place_after before key xs d (omega arith)))
    (λ e. rw e (λ l. e))
    (cases_Bool (before x key))

module _ {T : Type 0} {before : T → T → Bool} {fields : T → List ℕ} (law : Lawful before fields) (key : T) (xs : List T) (at : ℕ) (is : at ≡ place before key xs) where
  held : (d : T) → at < length xs → holds before key xs ≡ not (before key (get_or xs at d))
  held d l = holds-place before key xs d (rw is at l) ∙ ap (λ p. not (before key (get_or xs p d))) (sym is)

  -- a record of the key's rank stands at its place
  pub located_same : (d : T) → at < length xs → fields key ≡ fields (get_or xs at d) → Ok at ≡ located before key xs
  located_same d l e = ap Ok is ∙ sym (cond-true _ _ _ (held d l ∙ ap not (same_not_before law key _ e)))

  -- the record at the key's place comes after it
  pub located_other : (d : T) → at < length xs → before key (get_or xs at d) ≡ true → Err at ≡ located before key xs
  located_other d l after = ap Err is ∙ sym (cond-false _ _ _ (held d l ∙ ap not after))

  -- every record comes before the key
  pub located_none : length xs ≤ at → Err at ≡ located before key xs
  located_none l = ap Err is ∙ sym (cond-false _ _ _ (holds_none before key xs (rw is at l)))

-- each record below the key's place comes before it
pub place_before : {T : Type 0} (before : T → T → Bool) (key : T) (xs : List T) (k : ℕ) (d : T) → k < place before key xs → before (get_or xs k d) key ≡ true
place_before before key [] k d = λ l. absurd (omega arith)
place_before before key (x ∷ xs) zero d =
    ⊎_elim (λ e. λ l. e) (λ e. rw e (λ l. absurd (omega arith))) (cases_Bool (before x key))
place_before before key (x ∷ xs) (suc k) d =
    ⊎_elim (λ e. rw e (λ l. place_before before key xs k d (omega arith))) (λ e. rw e (λ l. absurd (omega arith))) (cases_Bool (before x key))

pub place_within : {T : Type 0} (before : T → T → Bool) (key : T) (xs : List T) → place before key xs ≤ length xs
place_within before key [] = omega arith
place_within before key (x ∷ xs) =
    elim (before x key) as (λ v. cond v (suc (place before key xs)) 0 ≤ suc (length xs)) [ true ↦ omega (arith, place_within before key xs) | false ↦ omega arith ]

-- a rank that is there stands within the list
pub holds_within : {T : Type 0} (before : T → T → Bool) (key : T) (xs : List T) → holds before key xs ≡ true → place before key xs < length xs
holds_within before key xs h =
    ⊎_elim (λ l. l) (λ l. absurd (both_ways _ (holds_none before key xs l) h)) (cases_lt (place before key xs) (length xs))

module _ {T : Type 0} {before : T → T → Bool} {fields : T → List ℕ} (law : Lawful before fields) (key : T) (xs : List T) (up : Ascends before xs) where
  place_here : holds before key xs ≡ true → (d : T) → fields (get_or xs (place before key xs) d) ≡ fields key
  place_here h d =
      let l = holds_within before key xs h in
      same_from_neither law _ key (place_after before key xs d l) (not-true _ (sym (holds-place before key xs d l) ∙ h))

  place_behind : holds before key xs ≡ false → (k : ℕ) (d : T) → place before key xs ≤ k → k < length xs → before key (get_or xs k d) ≡ true
  place_behind h k d l n =
      let there : place before key xs < length xs = omega arith in
      let first : before key (get_or xs (place before key xs) d) ≡ true = not-false _ (sym (holds-place before key xs d there) ∙ h) in
      ⊎_elim
      (λ e. rw e first)
      (λ o. ⊎_elim (λ lt. absurd (omega arith)) (λ gt. law.trans _ _ _ first (Ascends-far law xs up _ k d gt n)) o)
      (cases_order k (place before key xs))

  -- what the place of a key tells
  pub told_by_place : (r : Result ℕ ℕ) → r ≡ located before key xs → ToldByPlace before fields key xs r
  told_by_place r is =
      subst (ToldByPlace before fields key xs) (sym is) (cond_both (holds before key xs) _ _ (ToldByPlace before fields key xs)
      (λ h. (holds_within before key xs h, place_here h))
      (λ h. (place_within before key xs, place_before before key xs, place_behind h)))

module _ {T : Type 0} {before : T → T → Bool} {fields : T → List ℕ} (law : Lawful before fields) (key : T) where
  -- a record's rank is told by what it answers against the key
  pub against_ranked : (x : T) (o : Ordering) → MatchOrdering o (before x key ≡ true) (fields x ≡ fields key) (before key x ≡ true) → o ≡ against before key x
  against_ranked x o r =
      by_ranked _ _ _ o r
      (λ e h. e ∙ sym (cond-true _ _ _ h))
      (λ e h. e ∙ sym (cond-false _ _ _ (same_not_before law x key h) ∙ cond-false _ _ _ (same_not_before law key x (sym h))))
      (λ e h. e ∙ sym (cond-false _ _ _ (before_not_after law key x h) ∙ cond-true _ _ _ h))

  -- and the other way round
  against-cases : (x : T) (o : Ordering) → against before key x ≡ o → MatchOrdering o (before x key ≡ true) (fields x ≡ fields key) (before key x ≡ true)
  against-cases x o e =
      ⊎_elim
      (λ h. subst tells (against_ranked x Less h.0 ∙ e) h.0)
      (λ h. ⊎_elim (λ m. subst tells (against_ranked x Equal m.1 ∙ e) m.1) (λ a. subst tells (against_ranked x Greater a.2 ∙ e) a.2) h)
      (law.one x key)
    where
      tells : Ordering → Type 0
      tells v = MatchOrdering v (before x key ≡ true) (fields x ≡ fields key) (before key x ≡ true)

  -- what follows a record that does not come before the key comes after the key
  past : (x y : T) → before x y ≡ true → (before x key ≡ true) ⊎ (against before key y ≡ Greater)
  past x y e =
      ⊎_elim
      (λ h. inl h.0)
      (λ h. inr (sym (against_ranked y Greater (⊎_elim (λ m. same_before law x key y m.1 e) (λ a. law.trans _ _ _ a.2 e) h))))
      (law.one x key)

  -- along a list that ascends, the answers against the key rise
  against-rises : (xs : List T) → Ascends before xs → IsNonDecreasingBy (λ y. ordering_index (against before key y)) xs
  against-rises xs up i j d l m =
      ⊎_elim
      (λ e. rw e (omega arith))
      (λ (h : (i < j) ⊎ (j < i)).
      ⊎_elim
      (λ (lt : i < j).
      ⊎_elim
      (λ b. rw (sym (against_ranked (get_or xs i d) Less b)) (omega arith))
      (λ g. rw g (index_within (against before key (get_or xs i d))))
      (past _ _ (Ascends-far law xs up i j d lt m)))
      (λ (gt : j < i). absurd (omega arith))
      h)
      (cases_order i j)
    where
      index_within : (o : Ordering) → ordering_index o ≤ 2
      index_within Less = omega arith
      index_within Equal = omega arith
      index_within Greater = omega arith

  -- what a search by halving answers is the key's place
  pub searched : (xs : List T) (r : Result ℕ ℕ) → Ascends before xs → MatchResult r (λ i. i < length xs) (λ i. i ≤ length xs) → IsBinarySearchResult (against before key) xs r → r ≡ located before key xs
  searched xs (Ok i) up l h =
      let same : (d : T) → fields (get_or xs i d) ≡ fields key = λ d. against-cases _ Equal (h d) in
      let is : i ≡ place before key xs =
      place_parts before key xs i (omega arith) (record {
        below = λ k d n. same_after law _ key _ (same d) (Ascends-far law xs up k i d n l);
        above = λ k d n m.
            ⊎_elim
            (λ e. rw e (same_not_before law _ key (same d)))
            (λ o. ⊎_elim (λ lt. absurd (omega arith)) (λ gt. before_not_after law key _ (same_before law _ key _ (same d) (Ascends-far law xs up i k d gt m))) o)
            (cases_order k i);
      }) in
      located_same law key xs i is key l (sym (same key))
  searched xs (Err i) up l h =
      let parts = h (against-rises xs up) in
      let after : (k : ℕ) (d : T) → i ≤ k → k < length xs → before key (get_or xs k d) ≡ true = λ k d n m. against-cases _ Greater (parts.1 k d n m) in
      let is : i ≡ place before key xs =
      place_parts before key xs i l (record {
        below = λ k d n. against-cases _ Less (parts.0 k d (omega arith) n);
        above = λ k d n m. before_not_after law key _ (after k d n m);
      }) in
      ⊎_elim (λ m. located_other law key xs i is key m (after i key (omega arith) m)) (λ m. located_none law key xs i is m) (cases_lt i (length xs))
