-- What a ranking's laws give of `before`, for two records and along a list that ascends.
use Rattle.std.proofs.Common.{◌≡◌, ℕ, zero, suc, ◌<◌, Bool, true, false, List, length, get_or, sym, ◌∙◌, ⊎_elim, add-one, arith}
use Rattle.std.proofs.lemmas.Bool.{false_from_ne_true, both_ways, cases_order}
use Rattle.ordered.specs.Ranking.{Lawful}
use Rattle.ordered.specs.Files.{Ascends}

module _ {T : Type 0} {before : T → T → Bool} {fields : T → List ℕ} (law : Lawful before fields) where
  -- of two records that have the same rank neither comes before the other
  pub same_not_before : (x y : T) → fields x ≡ fields y → before x y ≡ false
  same_not_before x y e =
      ⊎_elim (λ h. absurd (h.1 e)) (λ h. ⊎_elim (λ m. false_from_ne_true _ m.0) (λ a. absurd (a.1 e)) h) (law.one x y)

  pub before_not_after : (x y : T) → before x y ≡ true → before y x ≡ false
  before_not_after x y e =
      ⊎_elim (λ h. false_from_ne_true _ h.2) (λ h. ⊎_elim (λ m. absurd (m.0 e)) (λ a. absurd (a.0 e)) h) (law.one x y)

  -- where neither comes before the other, all ranking fields are equal
  pub same_from_neither : (x y : T) → before x y ≡ false → before y x ≡ false → fields x ≡ fields y
  same_from_neither x y p q =
      ⊎_elim (λ h. absurd (clash h.0 p)) (λ h. ⊎_elim (λ m. m.1) (λ a. absurd (clash a.2 q)) h) (law.one x y)
    where
      clash : {b : Bool} → b ≡ true → b ≡ false → ⊥
      clash {b} s t = let z : true ≡ false = sym s ∙ t in grind arith

  -- records of the same rank come before, and after, the same records
  pub same_before : (x y z : T) → fields x ≡ fields y → before x z ≡ true → before y z ≡ true
  same_before x y z e b =
      ⊎_elim
      (λ h. h.0)
      (λ h. ⊎_elim (λ m. absurd (both_ways _ (same_not_before x z (e ∙ m.1)) b)) (λ a. absurd (both_ways _ (same_not_before x y e) (law.trans _ _ _ b a.2))) h)
      (law.one y z)

  pub same_after : (x y z : T) → fields x ≡ fields y → before z x ≡ true → before z y ≡ true
  same_after x y z e b =
      ⊎_elim
      (λ h. h.0)
      (λ h. ⊎_elim (λ m. absurd (both_ways _ (same_not_before z x (m.1 ∙ sym e)) b)) (λ a. absurd (both_ways _ (same_not_before y x (sym e)) (law.trans _ _ _ a.2 b))) h)
      (law.one z y)

  -- along a list that ascends, an earlier record comes before a later one
  pub Ascends-far : (xs : List T) → Ascends before xs → (i j : ℕ) (d : T) → i < j → j < length xs → before (get_or xs i d) (get_or xs j d) ≡ true
  Ascends-far xs up i zero d l m = absurd (omega arith)
  Ascends-far xs up i (suc j) d l m =
      let next : before (get_or xs j d) (get_or xs (suc j) d) ≡ true = rw add-one at (up j d (omega arith)) in
      ⊎_elim
      (λ e. rw e next)
      (λ h. ⊎_elim (λ lt. law.trans _ _ _ (Ascends-far xs up i j d lt (omega arith)) next) (λ gt. absurd (omega arith)) h)
      (cases_order i j)
