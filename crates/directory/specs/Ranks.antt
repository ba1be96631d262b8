-- The ranking of codes is lawful.
use Rattle.std.specs.Prelude.{◌≡◌, ℕ, true, false, ◌⊎◌, List, [], ◌∷◌, ◌≢◌, refl}
use Rattle.std.proofs.Common.{arith, sym, subst, ◌∙◌, inl, inr, ⊎_elim}
use Rattle.std.proofs.lemmas.Bool.{false≢true, both_ways, cases_order, cond-true, eq-eqb}
use Rattle.std.proofs.lemmas.Bool.Decides.{nat_tests}
use Rattle.ordered.specs.Ranking.{ExactlyOne, Lawful}
use Rattle.directory.specs.Codes.{precedes, text_of, earlier}

pub precedes_self : (xs : List ℕ) → precedes xs xs ≡ false
precedes_self [] = refl
precedes_self (x ∷ xs) = cond-true _ _ _ (eq-eqb x x refl) ∙ precedes_self xs

pub precedes_trans : (xs ys zs : List ℕ) → precedes xs ys ≡ true → precedes ys zs ≡ true → precedes xs zs ≡ true
precedes_trans [] [] zs p q = absurd (false≢true p)
precedes_trans [] (y ∷ ys) [] p q = absurd (false≢true q)
precedes_trans [] (y ∷ ys) (z ∷ zs) p q = refl
precedes_trans (x ∷ xs) [] zs p q = absurd (false≢true p)
precedes_trans (x ∷ xs) (y ∷ ys) [] p q = absurd (false≢true q)
precedes_trans (x ∷ xs) (y ∷ ys) (z ∷ zs) p q = let more = precedes_trans xs ys zs in grind (arith, nat_tests)

pub precedes_some : (xs ys : List ℕ) → (precedes xs ys ≡ true) ⊎ ((xs ≡ ys) ⊎ (precedes ys xs ≡ true))
precedes_some [] [] = inr (inl refl)
precedes_some [] (y ∷ ys) = inl refl
precedes_some (x ∷ xs) [] = inr (inr refl)
precedes_some (x ∷ xs) (y ∷ ys) =
    ⊎_elim
    (λ e.
    ⊎_elim
    (λ p. inl (cond-true _ _ _ (eq-eqb x y e) ∙ p))
    (λ h. ⊎_elim (λ s. inr (inl (λ i. e i ∷ s i))) (λ p. inr (inr (cond-true _ _ _ (eq-eqb y x (sym e)) ∙ p))) h)
    (precedes_some xs ys))
    (λ h. ⊎_elim (λ l. inl (grind (arith, nat_tests))) (λ l. inr (inr (grind (arith, nat_tests)))) h)
    (cases_order x y)

-- of two codes exactly one of before, same and after holds
pub codes_one : (xs ys : List ℕ) → ExactlyOne (precedes xs ys ≡ true) (xs ≡ ys) (precedes ys xs ≡ true)
codes_one xs ys =
    ⊎_elim
    (λ p. inl (p, λ s. apart xs ys p s, λ q. both p q))
    (λ h.
    ⊎_elim
    (λ s. inr (inl (λ p. apart xs ys p s, s, λ q. apart ys xs q (sym s))))
    (λ q. inr (inr (λ p. both p q, λ s. apart ys xs q (sym s), q)))
    h)
    (precedes_some xs ys)
  where
    apart : (us vs : List ℕ) → precedes us vs ≡ true → us ≢ vs
    apart us vs p s = both_ways _ (precedes_self vs) (subst (λ l. precedes l vs ≡ true) s p)

    both : precedes xs ys ≡ true → precedes ys xs ≢ true
    both p q = both_ways _ (precedes_self xs) (precedes_trans xs ys xs p q)

-- entries rank lawfully by their codes
pub by_code : Lawful earlier text_of
by_code = record { one = λ x y. codes_one (text_of x) (text_of y); trans = λ x y z. precedes_trans (text_of x) (text_of y) (text_of z) }
