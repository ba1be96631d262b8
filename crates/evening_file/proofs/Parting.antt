-- How the words of a line come off its front: past the spaces, up to the next one.
use Rattle.std.proofs.Common.{◌≡◌, ℕ, ◌+◌, ◌-◌, ◌<◌, ◌≤◌, Bool, true, false, not, cond, eqb, ltb, List, [], ◌∷◌, ◌++◌, length, get_or, take, drop, Some, None, unwrap_or, sym, refl, ap, ◌∙◌, arith, add_comm, add-one, append_assoc, append-nil}
use Rattle.std.proofs.lemmas.Bool.{cond-true, not-true}
use Rattle.std.proofs.lemmas.List.{drop_all, drop_more, take_rest}
use Rattle.std.proofs.lemmas.List.Sums.{prefix_len-le-length, passes_at_first}
use Rattle.std.proofs.lemmas.Bool.Decides.{nat_tests}
use Rattle.std.proofs.lemmas.Option.{cond_some}
use Rattle.std.specs.List.{position, position_or_len}
use Rattle.evening_file.specs.Words.{words, words_on, ended}

-- how many spaces stand in front
abbrev pub blanks : List ℕ → ℕ
blanks xs = position_or_len (λ b. not (eqb b 32)) xs

-- how many bytes stand before the first space
abbrev pub word_len : List ℕ → ℕ
word_len xs = position_or_len (λ b. eqb b 32) xs

behind_one : (n c : ℕ) (cs : List ℕ) → drop (1 + n) (c ∷ cs) ≡ drop n cs
behind_one n c cs = rw (add_comm 1 n, add-one n) refl

through_one : (n c : ℕ) (cs : List ℕ) → take (1 + n) (c ∷ cs) ≡ c ∷ take n cs
through_one n c cs = rw (add_comm 1 n, add-one n) refl

one_blank : (here : Bool) (n c : ℕ) (cs : List ℕ) → words_on [] (drop n cs) ≡ words_on [] cs
    → words_on [] (drop (cond (not (not here)) (1 + n) 0) (c ∷ cs)) ≡ cond here (words_on [] cs) (words_on [] (c ∷ cs))
one_blank true n c cs e = ap (words_on []) (behind_one n c cs) ∙ e
one_blank false n c cs e = refl

same_ways : (here : Bool) (x y : List (List ℕ)) → cond here x (cond here x y) ≡ cond here x y
same_ways true x y = refl
same_ways false x y = refl

-- spaces in front are no part of a word
pub words_behind : (xs : List ℕ) → words_on [] (drop (blanks xs) xs) ≡ words_on [] xs
words_behind [] = refl
words_behind (c ∷ cs) = one_blank (eqb c 32) (blanks cs) c cs (words_behind cs) ∙ same_ways (eqb c 32) (words_on [] cs) (words_on (c ∷ []) cs)

one_byte : (here : Bool) (w : List ℕ) (n c : ℕ) (cs : List ℕ) → words_on (w ++ (c ∷ [])) cs ≡ ended ((w ++ (c ∷ [])) ++ take n cs) (words_on [] (drop n cs))
    → (here ≡ true → eqb c 32 ≡ true)
    → cond here (ended w (words_on [] cs)) (words_on (w ++ (c ∷ [])) cs) ≡ ended (w ++ take (cond (not here) (1 + n) 0) (c ∷ cs)) (words_on [] (drop (cond (not here) (1 + n) 0) (c ∷ cs)))
one_byte true w n c cs e is = rw append-nil (ap (ended w) (sym (cond-true (eqb c 32) (words_on [] cs) (words_on (c ∷ []) cs) (is refl))))
one_byte false w n c cs e is = e ∙ ap (λ v. ended v (words_on [] (drop n cs))) (append_assoc w (c ∷ []) (take n cs)) ∙ sym (rw (through_one n c cs, behind_one n c cs) refl)

-- the bytes before the next space go to the word that has come so far
pub word_ends : (w xs : List ℕ) → words_on w xs ≡ ended (w ++ take (word_len xs) xs) (words_on [] (drop (word_len xs) xs))
word_ends w [] = rw append-nil refl
word_ends w (c ∷ cs) = one_byte (eqb c 32) w (word_len cs) c cs (word_ends (w ++ (c ∷ [])) cs) (λ e. e)

-- where all bytes are spaces, no word is left
pub words_none : (xs : List ℕ) → position (λ b. not (eqb b 32)) xs ≡ None → words xs ≡ []
unfolding words
words_none xs e =
    let past : length xs ≤ blanks xs = grind (arith, nat_tests) in
    sym (words_behind xs) ∙ rw drop_all refl

has_bytes : (here : Bool) (n b : ℕ) (bs : List ℕ) (ws : List (List ℕ)) → here ≡ false → ended (take (cond (not here) (1 + n) 0) (b ∷ bs)) ws ≡ take (cond (not here) (1 + n) 0) (b ∷ bs) ∷ ws
has_bytes true n b bs ws e = cc
has_bytes false n b bs ws e = rw (through_one n b bs) refl

-- a word comes off the front of bytes that do not begin with a space
word_off : (xs : List ℕ) (b : ℕ) (bs : List ℕ) → xs ≡ b ∷ bs → eqb b 32 ≡ false → words_on [] xs ≡ take (word_len xs) xs ∷ words_on [] (drop (word_len xs) xs)
word_off xs b bs e first =
    rw e (word_ends [] (b ∷ bs) ∙ has_bytes (eqb b 32) (word_len bs) b bs (words_on [] (drop (word_len (b ∷ bs)) (b ∷ bs))) first)

-- the first space, or the end
pub word_end : (xs : List ℕ) → unwrap_or (position (λ b. eqb b 32) xs) (length xs) ≡ word_len xs
word_end xs = let within = prefix_len-le-length (λ b. not (eqb b 32)) xs in grind (arith, nat_tests)

-- the first word and those behind it
pub word_next : (xs rest : List ℕ) (start end : ℕ) → position (λ b. not (eqb b 32)) xs ≡ Some start → rest ≡ take (length xs - start) (drop start xs) → end ≡ unwrap_or (position (λ b. eqb b 32) rest) (length rest)
    → words xs ≡ take end rest ∷ words (drop end rest)
unfolding words
word_next xs rest start end e is ends =
    let placed = cond_some (ltb (blanks xs) (length xs)) (blanks xs) start e in
    let within : blanks xs < length xs = grind (arith, nat_tests, placed.0) in
    let inside : start < length xs = omega (arith, placed.1) in
    let same : rest ≡ drop start xs = is ∙ take_rest xs start in
    let first : eqb (get_or xs start 0) 32 ≡ false = rw placed.1 at (not-true _ (passes_at_first (λ b. not (eqb b 32)) xs 0 within)) in
    sym (words_behind xs) ∙ ap (λ n. words_on [] (drop n xs)) placed.1 ∙ ap (words_on []) (sym same) ∙ word_off rest _ _ (same ∙ drop_more xs start 0 inside) first ∙ ap (λ n. take n rest ∷ words_on [] (drop n rest)) (sym (ends ∙ word_end rest))
