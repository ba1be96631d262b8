-- The letter of a line picks its form.
use Rattle.std.proofs.Common.{◌≡◌, ℕ, ◌-◌, ◌<◌, Bool, true, false, cond, List, [], ◌∷◌, length, get_or, take, drop, Err, Result, sym, refl, ap, ◌∙◌, arith}
use Rattle.std.proofs.lemmas.List.{take_rest}
use Rattle.std.proofs.lemmas.Bool.{ne_eqb}
use Rattle.terms.specs.declared.faults.ReaderFault.{ReaderFault}
use Rattle.terms.specs.declared.faults.ReaderFault.TheVariants.{Form}
use Rattle.evening_file.specs.Lines.{behind, by_letter, formed}
use Rattle.evening_file.specs.Said.{Said}
use Rattle.evening_file.specs.Words.{words, parted}

-- what a form says behind the letter k is what the line says
pub lettered : (k : ℕ) (line : List ℕ) {said : Result Said ReaderFault} → 0 < length line → get_or line 0 0 ≡ k → said ≡ behind (take (length line - 1) (drop 1 line)) (by_letter k) → said ≡ formed line
unfolding formed
lettered k [] h e is = absurd (omega arith)
lettered k (c ∷ cs) h e is = is ∙ ap (λ l. behind l (by_letter k)) (take_rest (c ∷ cs) 1) ∙ ap (λ n. behind cs (by_letter n)) (sym e)

-- a byte that begins no form
abbrev pub Other : ℕ → Type 0
Other c =
    (c ≡ 65 → ⊥) × (c ≡ 67 → ⊥) × (c ≡ 70 → ⊥) × (c ≡ 79 → ⊥) × (c ≡ 78 → ⊥) × (c ≡ 88 → ⊥) × (c ≡ 84 → ⊥) × (c ≡ 80 → ⊥) × (c ≡ 68 → ⊥) × (c ≡ 69 → ⊥) × (c ≡ 77 → ⊥) × (c ≡ 82 → ⊥)

either_way : (b : Bool) (x : Result Said ReaderFault) → x ≡ cond b x x
either_way true x = refl
either_way false x = refl

no_form : (c : ℕ) (ws : List (List ℕ)) → Other c → Err Form ≡ by_letter c ws
no_form c ws o =
    simp (ne_eqb c 65 o.0, ne_eqb c 67 o.1, ne_eqb c 70 o.2, ne_eqb c 79 o.3, ne_eqb c 78 o.4, ne_eqb c 88 o.5, ne_eqb c 84 o.6, ne_eqb c 80 o.7, ne_eqb c 68 o.8, ne_eqb c 69 o.9, ne_eqb c 77 o.10, ne_eqb c 82 o.11)

-- a line that begins with no letter of a form
pub unlettered : (line : List ℕ) → (0 < length line → Other (get_or line 0 0)) → Err Form ≡ formed line
unfolding formed
unlettered [] h = refl
unlettered (c ∷ cs) h = either_way (parted cs) (Err Form) ∙ ap (λ r. cond (parted cs) r (Err Form)) (no_form c (words cs) (h (omega arith)))
