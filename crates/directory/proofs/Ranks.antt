-- The ranking of codes is what comparing their bytes tells.
use Rattle.std.proofs.Common.{◌≡◌, ℕ, ◌<◌, true, List, [], ◌∷◌, Ordering, Less, Equal, Greater, refl, sym, ◌∙◌, arith}
use Rattle.std.specs.Ordering.{MatchOrdering, nat_cmp, ordering_then}
use Rattle.std.specs.Cmp.Lexicographic.{slice_cmp}
use Rattle.std.proofs.lemmas.Cmp.{ranked, by_ranked}
use Rattle.std.proofs.lemmas.Bool.{cond-true, eq-eqb}
use Rattle.std.proofs.lemmas.Bool.Decides.{nat_tests}
use Rattle.directory.specs.Codes.{precedes}

-- what `cmp` answers of two codes' bytes
pub codes_ranked : (xs ys : List ℕ) (o : Ordering) → o ≡ slice_cmp nat_cmp xs ys → MatchOrdering o (precedes xs ys ≡ true) (xs ≡ ys) (precedes ys xs ≡ true)
codes_ranked [] [] o e = rw e refl
codes_ranked [] (y ∷ ys) o e = rw e refl
codes_ranked (x ∷ xs) [] o e = rw e refl
codes_ranked (x ∷ xs) (y ∷ ys) o e = next (codes_ranked xs ys o) (nat_cmp x y) (ranked x y (nat_cmp x y) refl) e
  where
    next : (o ≡ slice_cmp nat_cmp xs ys → MatchOrdering o (precedes xs ys ≡ true) (xs ≡ ys) (precedes ys xs ≡ true))
        → (k : Ordering) → MatchOrdering k (x < y) (x ≡ y) (y < x) → o ≡ ordering_then k (slice_cmp nat_cmp xs ys)
        → MatchOrdering o (precedes (x ∷ xs) (y ∷ ys) ≡ true) (x ∷ xs ≡ y ∷ ys) (precedes (y ∷ ys) (x ∷ xs) ≡ true)
    next more Less l e = rw e (grind (arith, nat_tests))
    next more Greater l e = rw e (grind (arith, nat_tests))
    next more Equal e rest =
        by_ranked _ _ _ o (more rest)
        (λ is p. rw is (cond-true _ _ _ (eq-eqb x y e) ∙ p))
        (λ is s. rw is (λ i. e i ∷ s i))
        (λ is p. rw is (cond-true _ _ _ (eq-eqb y x (sym e)) ∙ p))
