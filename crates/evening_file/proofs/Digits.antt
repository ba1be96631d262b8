-- The value of digits, as it grows from the front, and its bound.
use Rattle.std.proofs.Common.{◌≡◌, ℕ, ◌+◌, ◌-◌, ◌*◌, ◌^◌, ◌<◌, ◌≤◌, true, ◌&&◌, eqb, List, [], ◌∷◌, length, get_or, take, drop, pos, neg_ℤ, sym, refl, ap, ◌∙◌, pow-suc, add-one, arith, lit<}
use native.Mathlib.Nat.{pow-le-pow_right}
use Rattle.std.proofs.lemmas.List.{take_rest, at_drop_more}
use Rattle.std.proofs.lemmas.Bool.{cond-true, cond-false, eq-eqb, ne_eqb}
use Rattle.std.specs.Option.{option_map}
use Rattle.evening_file.specs.Numbers.{digit, digits, value, unsigned, number}

-- one digit more
pub below_more : (v i d : ℕ) → v < 10 ^ i → d < 10 → v * 10 + d < 10 ^ (i + 1)
below_more v i d h k = rw (add-one, pow-suc) (omega arith)

pub below_at : (v i n : ℕ) → v < 10 ^ i → i ≤ n → v < 10 ^ n
below_at v i n h k = let more : 10 ^ i ≤ 10 ^ n = pow-le-pow_right (lit< tt) k in omega arith

pub digits_more : (xs : List ℕ) (i : ℕ) → i < length xs → digit (get_or xs i 0) ≡ true → digits (drop (i + 1) xs) ≡ digits (drop i xs)
digits_more xs i h e = sym (at_drop_more digits xs i 0 h ∙ ap (λ b. b && digits (drop (i + 1) xs)) e)

pub value_more : (xs : List ℕ) (i v d : ℕ) → i < length xs → d ≡ get_or xs i 0 - 48 → value (v * 10 + d) (drop (i + 1) xs) ≡ value v (drop i xs)
value_more xs i v d h e = ap (λ n. value (v * 10 + n) (drop (i + 1) xs)) e ∙ sym (at_drop_more (value v) xs i 0 h)

-- a word that begins with a minus, and one that does not
pub number_minus : (w : List ℕ) → 0 < length w → get_or w 0 0 ≡ 45 → number w ≡ option_map (λ n. neg_ℤ (pos n)) (unsigned (take (length w - 1) (drop 1 w)))
unfolding number
number_minus [] h e = absurd (omega arith)
number_minus (c ∷ cs) h e =
    cond-true (eqb c 45) _ _ (eq-eqb c 45 e) ∙ sym (ap (λ l. option_map (λ n. neg_ℤ (pos n)) (unsigned l)) (take_rest (c ∷ cs) 1))

pub number_plain : (w : List ℕ) → (0 < length w → get_or w 0 0 ≡ 45 → ⊥) → number w ≡ option_map pos (unsigned w)
unfolding number
number_plain [] h = refl
number_plain (c ∷ cs) h = cond-false (eqb c 45) _ _ (ne_eqb c 45 (h (omega arith)))
