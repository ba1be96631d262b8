-- What feeding bytes does: bytes without an LF are kept, an LF ends the line, and one list of bytes after another is the two together.
use Rattle.std.proofs.Common.{◌≡◌, ℕ, zero, suc, ◌+◌, ◌-◌, ◌<◌, min, Bool, true, false, eqb, List, [], ◌∷◌, ◌++◌, length, take, get_or, Decides, is_ok, Ok, Err, Result, sym, refl, ap, ◌∙◌, append_assoc, append-nil, subst, ⊎_elim, arith}
use Rattle.std.specs.List.{All, IsFirstMatchOrLen, ends_with}
use Rattle.std.proofs.Math.Seq.{take-append-add}
use Rattle.std.proofs.lemmas.List.{take_at, take_all, take_more, take_min, get_or-take, get_or_append_left, length-append, length-take-le}
use Rattle.std.specs.declared.alloc.AllocError.{AllocError}
use Rattle.std.proofs.lemmas.Bool.{cond-false, cases_lt, eqb-true, eq-eqb}
use Rattle.std.proofs.lemmas.Slice.Eq.{ends_is}
use Rattle.evening_stream.specs.Input.{State, clipped, ended, ended_says, goes_on, step, step_says, fed, says, LineEnded}

-- one list of bytes after another
pub fed-append : (s : State) (xs ys : List ℕ) → fed s (xs ++ ys) ≡ fed (fed s xs) ys
fed-append s [] ys = refl
fed-append s (x ∷ xs) ys = fed-append (step s x) xs ys

pub says-append : (s : State) (xs ys : List ℕ) → says s (xs ++ ys) ≡ says s xs ++ says (fed s xs) ys
says-append s [] ys = refl
says-append s (x ∷ xs) ys = ap (λ t. step_says s x ++ t) (says-append (step s x) xs ys) ∙ sym (append_assoc (step_says s x) (says (step s x) xs) (says (fed (step s x) xs) ys))

-- clipping on the way changes nothing
take_twice : (n : ℕ) (xs ys : List ℕ) → take n (take n xs ++ ys) ≡ take n (xs ++ ys)
take_twice zero xs ys = refl
take_twice (suc n) [] ys = refl
take_twice (suc n) (x ∷ xs) ys = ap (λ t. x ∷ t) (take_twice n xs ys)

pub clipped_twice : (xs ys : List ℕ) → clipped (clipped xs ++ ys) ≡ clipped (xs ++ ys)
clipped_twice xs ys = take_twice 401 xs ys

-- bytes are kept as far as there is a place for them
pub kept_more : (kept more kept' : List ℕ) (places n : ℕ) → places + length kept ≡ 401 → n ≡ min places (length more) → kept' ≡ kept ++ take n more → kept' ≡ clipped (kept ++ more)
kept_more kept more kept' places n all n_is e =
    let whole : length kept + places ≡ 401 = omega arith in
    e ∙ ap (λ k. kept ++ take k more) n_is ∙ ap (λ t. kept ++ t) (take_min places more) ∙ sym (take-append-add kept more places) ∙ ap (λ k. take k (kept ++ more)) whole

decides : (a b : ℕ) → Decides (eqb a b) (a ≡ b)
decides a b = (eqb-true a b, eq-eqb a b)

-- no byte is an LF
abbrev pub NoEnd : List ℕ → Type 0
NoEnd bs = All (λ c. eqb c 10 ≡ false) bs

no_end-parts : (c : ℕ) (cs : List ℕ) → NoEnd (c ∷ cs) → (eqb c 10 ≡ false) × NoEnd cs
no_end-parts c cs h = (h 0 0 (omega arith), λ k d l. h (suc k) d (omega arith))

-- bytes without an LF are kept, and print nothing
fed_on : (s : State) (w bs : List ℕ) → NoEnd bs → fed (goes_on s (clipped w)) bs ≡ goes_on s (clipped (w ++ bs))
fed_on s w [] h = ap (λ k. goes_on s (clipped k)) (sym (append-nil w))
fed_on s w (c ∷ cs) h =
    let p = no_end-parts c cs h in
    ap (λ t. fed t cs) (cond-false (eqb c 10) _ _ p.0 ∙ ap (goes_on s) (clipped_twice w (c ∷ []))) ∙ fed_on s (w ++ (c ∷ [])) cs p.1 ∙ ap (λ k. goes_on s (clipped k)) (append_assoc w (c ∷ []) cs)

pub fed_kept : (s : State) (bs : List ℕ) → 0 < length bs → NoEnd bs → fed s bs ≡ goes_on s (clipped (s.kept ++ bs))
fed_kept s [] l h = absurd (omega arith)
fed_kept s (c ∷ cs) l h =
    let p = no_end-parts c cs h in
    ap (λ t. fed t cs) (cond-false (eqb c 10) _ _ p.0) ∙ fed_on s (s.kept ++ (c ∷ [])) cs p.1 ∙ ap (λ k. goes_on s (clipped k)) (append_assoc s.kept (c ∷ []) cs)

pub says_kept : (s : State) (bs : List ℕ) → NoEnd bs → says s bs ≡ []
says_kept s [] h = refl
says_kept s (c ∷ cs) h =
    let p = no_end-parts c cs h in
    ap (λ t. t ++ says (step s c) cs) (cond-false (eqb c 10) _ _ p.0) ∙ says_kept (step s c) cs p.1

-- a line with its LF is carried out
pub fed_line : (s : State) (w : List ℕ) → NoEnd w → fed s (w ++ (10 ∷ [])) ≡ ended s (clipped (s.kept ++ (w ++ (10 ∷ []))))
fed_line s [] h = refl
fed_line s (c ∷ cs) h =
    let w = c ∷ cs in
    fed-append s w (10 ∷ []) ∙ ap (λ t. fed t (10 ∷ [])) (fed_kept s w (omega arith) h) ∙ ap (ended s) (clipped_twice (s.kept ++ w) (10 ∷ []) ∙ ap clipped (append_assoc s.kept w (10 ∷ [])))

pub says_line : (s : State) (w : List ℕ) → NoEnd w → says s (w ++ (10 ∷ [])) ≡ ended_says s (clipped (s.kept ++ (w ++ (10 ∷ []))))
says_line s [] h = append-nil _
says_line s (c ∷ cs) h =
    let w = c ∷ cs in
    says-append s w (10 ∷ []) ∙ ap (λ t. t ++ says (fed s w) (10 ∷ [])) (says_kept s w h) ∙ ap (λ t. says t (10 ∷ [])) (fed_kept s w (omega arith) h) ∙ append-nil _
    ∙ ap (ended_says s) (clipped_twice (s.kept ++ w) (10 ∷ []) ∙ ap clipped (append_assoc s.kept w (10 ∷ [])))

-- a block that was fed as far as `taken`: `rest` is still to be fed
pub record FedUpTo (s₀ : State) (block out₀ : List ℕ) (taken : ℕ) (rest : List ℕ) (s : State) (out : List ℕ) : Type 0 where
  pub parted : block ≡ take taken block ++ rest
  pub within : taken + length rest ≡ length block
  pub is : s ≡ fed s₀ (take taken block)
  pub said : out ≡ out₀ ++ says s₀ (take taken block)

module _ (s₀ : State) (block out₀ : List ℕ) (taken : ℕ) (rest : List ℕ) (s : State) (out : List ℕ) (before : FedUpTo s₀ block out₀ taken rest s out) where
  -- one piece more
  pub fed_piece : (piece rest' : List ℕ) (s' : State) (out' : List ℕ) → rest ≡ piece ++ rest' → s' ≡ fed s piece → out' ≡ out ++ says s piece → FedUpTo s₀ block out₀ (taken + length piece) rest' s' out'
  fed_piece piece rest' s' out' parts on says_so =
      let front = take taken block in
      let whole : block ≡ (front ++ piece) ++ rest' = before.parted ∙ ap (λ t. front ++ t) parts ∙ sym (append_assoc front piece rest') in
      let long : length front + length rest ≡ length block = sym (length-append front rest) ∙ ap length (sym before.parted) in
      let here : length (front ++ piece) ≡ taken + length piece = length-append front piece ∙ omega (arith, before.within) in
      let fronts : take (taken + length piece) block ≡ front ++ piece = ap (take (taken + length piece)) whole ∙ take_at (front ++ piece) rest' _ here in
      record {
        parted = whole ∙ ap (λ t. t ++ rest') (sym fronts);
        within = omega (arith, before.within, ap length parts ∙ length-append piece rest');
        is = on ∙ ap (λ t. fed t piece) before.is ∙ sym (fed-append s₀ front piece) ∙ ap (fed s₀) (sym fronts);
        said =
            says_so ∙ (λ i. before.said i ++ says (before.is i) piece) ∙ append_assoc out₀ (says s₀ front) (says (fed s₀ front) piece)
            ∙ ap (λ t. out₀ ++ t) (sym (says-append s₀ front piece) ∙ ap (says s₀) (sym fronts));
      }

-- A piece of what is left, `rest`, goes up to its first LF, or to its end where it has none. `ends` tells whether an LF ends the piece.
module _ (s : State) (out rest piece rest' : List ℕ) (i : ℕ) (parts : rest ≡ piece ++ rest') (long : length piece ≡ min (i + 1) (length rest)) (first : IsFirstMatchOrLen (λ y. eqb y 10) rest i) (ends : Bool) (tested : ends ≡ ends_with eqb piece (10 ∷ [])) where
  front : List ℕ
  front = take (length piece - 1) piece

  same : (k d : ℕ) → k < length piece → get_or rest k d ≡ get_or piece k d
  same k d l = ap (λ t. get_or t k d) parts ∙ get_or_append_left piece rest' d k l

  front_no_end : NoEnd front
  unfolding front
  front_no_end k d l =
      let n : length front ≡ length piece - 1 = length-take-le _ piece (omega arith) in
      subst (λ c. eqb c 10 ≡ false) (same k d (omega arith) ∙ sym (get_or-take _ piece k d (omega arith))) (first.0 k d (omega arith) (omega arith))

  piece_no_end : ends ≡ false → NoEnd piece
  piece_no_end unended k d l =
      ⊎_elim
      (λ in_rest.
      let last : get_or piece i 0 ≡ 10 = sym (same i 0 (omega arith)) ∙ eqb-true _ 10 (first.1 in_rest 0) in
      let line : piece ≡ take i piece ++ (10 ∷ []) = sym (take_all (i + 1) piece (omega arith)) ∙ take_more piece i 0 (omega arith) ∙ ap (λ c. take i piece ++ (c ∷ [])) last in
      let ended = (ends_is decides piece (10 ∷ []) ends tested).1 (take i piece) line in
      cc)
      (λ none. subst (λ c. eqb c 10 ≡ false) (same k d l) (first.0 k d (omega arith) (omega arith)))
      (cases_lt i (length rest))

  -- the line that it ends was carried out
  pub piece_ended : ends ≡ true → (r : Result (Unit {0}) AllocError) (s' : State) (out' : List ℕ) → is_ok r ≡ true → LineEnded s piece out r s' out' → (s' ≡ fed s piece) × (out' ≡ out ++ says s piece)
  unfolding front
  piece_ended end (Err e) s' out' ok done = cc
  piece_ended end (Ok u) s' out' ok done =
      let line : piece ≡ front ++ (10 ∷ []) = (ends_is decides piece (10 ∷ []) ends tested).0 end in (
        done.0 ∙ ap (λ l. ended s (clipped (s.kept ++ l))) line ∙ sym (fed_line s front front_no_end) ∙ ap (fed s) (sym line),
        done.1 ∙ ap (λ t. out ++ t) (ap (λ l. ended_says s (clipped (s.kept ++ l))) line ∙ sym (says_line s front front_no_end) ∙ ap (says s) (sym line)),
      )

  -- its bytes were kept
  pub piece_kept : ends ≡ false → 0 < length rest → (s' : State) → s' ≡ goes_on s (clipped (s.kept ++ piece)) → (s' ≡ fed s piece) × (out ≡ out ++ says s piece)
  piece_kept unended some s' kept =
      let none = piece_no_end unended in
      (kept ∙ sym (fed_kept s piece (omega arith) none), sym (append-nil out) ∙ ap (λ t. out ++ t) (sym (says_kept s piece none)))
