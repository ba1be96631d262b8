-- The bytes before the first LF, by its place.
use Rattle.std.proofs.Common.{◌≡◌, ℕ, ◌+◌, suc, Bool, true, false, cond, not, eqb, ltb, List, [], ◌∷◌, length, take, Some, None, refl, ap, ◌∙◌, arith, add_comm, add-one}
use Rattle.std.proofs.lemmas.Bool.Decides.{nat_tests}
use Rattle.std.specs.List.{position, position_or_len}
use Rattle.std.specs.Option.{option_map}
use Rattle.evening_file.specs.Lines.{up_to}

-- the same place, counted from one byte further in front
longer : (within : Bool) (c : ℕ) (cs : List ℕ) (n : ℕ) → option_map (λ l. c ∷ l) (option_map (λ k. take k cs) (cond within (Some n) None)) ≡ option_map (λ k. take k (c ∷ cs)) (cond within (Some (1 + n)) None)
longer true c cs n = rw (add_comm 1 n, add-one n) refl
longer false c cs n = refl

closer : (n m : ℕ) → ltb (1 + n) (suc m) ≡ ltb n m
closer n m = grind (arith, nat_tests)

-- one byte more in front, which is an LF or is not
in_front : (here : Bool) (c : ℕ) (cs : List ℕ) (n m : ℕ) → cond here (Some []) (option_map (λ l. c ∷ l) (option_map (λ k. take k cs) (cond (ltb n m) (Some n) None))) ≡ option_map (λ k. take k (c ∷ cs)) (cond (ltb (cond (not here) (1 + n) 0) (suc m)) (Some (cond (not here) (1 + n) 0)) None)
in_front true c cs n m = let first : ltb 0 (suc m) ≡ true = grind (arith, nat_tests) in rw first refl
in_front false c cs n m = rw closer (longer (ltb n m) c cs n)

pub up_to_place : (xs : List ℕ) → up_to xs ≡ option_map (λ n. take n xs) (position (λ c. eqb c 10) xs)
up_to_place [] = refl
up_to_place (c ∷ cs) =
    ap (λ o. cond (eqb c 10) (Some []) (option_map (λ l. c ∷ l) o)) (up_to_place cs) ∙ in_front (eqb c 10) c cs (position_or_len (λ b. eqb b 10) cs) (length cs)
