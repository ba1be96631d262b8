-- Cuts do not matter: the bytes of all blocks together print what their lines print.
use Rattle.std.proofs.Common.{◌≡◌, ℕ, true, ◌<◌, eqb, List, [], ◌∷◌, ◌++◌, length, is_ok, Ok, Err, Result, MatchResult, sym, refl, ap, ◌∙◌, ⊎_elim, append_assoc, append-nil, arith}
use Rattle.std.specs.declared.alloc.AllocError.{AllocError}
use Rattle.std.proofs.lemmas.List.{nil_from_length}
use Rattle.std.proofs.lemmas.Bool.{cases_Bool, cond-true, cond-false}
use Rattle.evening_desk.specs.Evening.{Held, after, printed}
use Rattle.evening_stream.specs.Input.{State, next, clipped, step, step_says, ended, ended_says, last_line, fed, says, finished_says, Finished, LineEnded}
use Rattle.evening_stream.specs.declared.fault.Stop.{Stop}
use Rattle.evening_stream.specs.declared.fault.Stop.TheVariants.{Memory}
use Rattle.evening_stream.specs.Whole.{lines_on, printed_by, fresh, fed_all, says_all, together, ByItsLines}
use Rattle.evening_stream.proofs.Feeding.{fed-append, says-append, clipped_twice}
use Rattle.evening_stream.proofs.Clipping.{after-clipped, printed-clipped}

-- an evening with w come of the line that has not ended
abbrev amid : Held → ℕ → List ℕ → State
amid h n w = record { desk = h; lines = n; kept = clipped w }

last_printed : (h : Held) (n : ℕ) (w : List ℕ) → finished_says (amid h n w) ≡ printed_by n h (last_line w [] (w ∷ []))
last_printed h n [] = refl
last_printed h n (c ∷ cs) = printed-clipped (next n) h (c ∷ cs) ∙ sym (append-nil (printed (next n) h (c ∷ cs)))

-- what a state prints of the bytes that are left, and of the end
abbrev rest : State → List ℕ → List ℕ
rest s bs = says s bs ++ finished_says (fed s bs)

-- one byte, by the state that it leads to and what it prints
rest-step : (s s' : State) (t : List ℕ) (c : ℕ) (cs : List ℕ) → step s c ≡ s' → step_says s c ≡ t → rest s (c ∷ cs) ≡ t ++ rest s' cs
rest-step s s' t c cs on said =
    append_assoc (step_says s c) (says (step s c) cs) (finished_says (fed (step s c) cs)) ∙ (λ i. said i ++ rest (on i) cs)

-- all bytes that are left, from within a line
pub by_lines : (h : Held) (n : ℕ) (w input : List ℕ) → rest (amid h n w) input ≡ printed_by n h (lines_on w input)
by_lines h n w [] = last_printed h n w
by_lines h n w (c ∷ cs) =
    let line = w ++ (c ∷ []) in
    let kept : clipped (clipped w ++ (c ∷ [])) ≡ clipped line = clipped_twice w (c ∷ []) in
    ⊎_elim
    (λ e.
    let on : step (amid h n w) c ≡ amid (after h line) (next n) [] =
    cond-true (eqb c 10) _ _ e ∙ ap (λ d. record { desk = d; lines = next n; kept = [] }) (ap (after h) kept ∙ after-clipped h line) in
    let said : step_says (amid h n w) c ≡ printed (next n) h line = cond-true (eqb c 10) _ _ e ∙ ap (printed (next n) h) kept ∙ printed-clipped (next n) h line in
    rest-step (amid h n w) (amid (after h line) (next n) []) (printed (next n) h line) c cs on said
    ∙ ap (λ t. printed (next n) h line ++ t) (by_lines (after h line) (next n) [] cs)
    ∙ sym (ap (printed_by n h) (cond-true (eqb c 10) (line ∷ lines_on [] cs) (lines_on line cs) e)))
    (λ e.
    let on : step (amid h n w) c ≡ amid h n line = cond-false (eqb c 10) _ _ e ∙ ap (λ k. record { desk = h; lines = n; kept = k }) kept in
    rest-step (amid h n w) (amid h n line) [] c cs on (cond-false (eqb c 10) _ _ e) ∙ by_lines h n line cs ∙ sym (ap (printed_by n h) (cond-false (eqb c 10) (line ∷ lines_on [] cs) (lines_on line cs) e)))
    (cases_Bool (eqb c 10))

fed_all-together : (s : State) (blocks : List (List ℕ)) → fed_all s blocks ≡ fed s (together blocks)
fed_all-together s [] = refl
fed_all-together s (b ∷ bs) = fed_all-together (fed s b) bs ∙ sym (fed-append s b (together bs))

says_all-together : (s : State) (blocks : List (List ℕ)) → says_all s blocks ≡ says s (together blocks)
says_all-together s [] = refl
says_all-together s (b ∷ bs) = ap (λ t. says s b ++ t) (says_all-together (fed s b) bs) ∙ sym (says-append s b (together bs))

-- the output of all blocks, and of the end, is that of the lines
pub whole_output : (s : State) (out out' : List ℕ) (r : Result (Unit {0}) Stop) (s' : State) → Finished s out r s' out' → is_ok r ≡ true → ByItsLines s out out'
whole_output s out out' (Err e) s' done ok = cc
whole_output s out out' (Ok u) s' done ok = λ h blocks shown fed_so said_so.
    ap (λ t. shown ++ t) done.1 ∙ sym (append_assoc shown out (finished_says s)) ∙ ap (λ t. t ++ finished_says s) (said_so ∙ says_all-together (fresh h) blocks)
    ∙ ap (λ t. says (fresh h) (together blocks) ++ finished_says t) (fed_so ∙ fed_all-together (fresh h) blocks)
    ∙ by_lines h 0 [] (together blocks)

-- the end of an input behind an LF
pub finished_none : (s : State) (out : List ℕ) → length s.kept ≡ 0 → Finished s out (Ok tt) s out
finished_none s out none =
    let nil = sym (nil_from_length s.kept none) in
    (ap (λ k. last_line k s (ended s s.kept)) nil, sym (append-nil out) ∙ ap (λ k. out ++ last_line k [] (ended_says s s.kept)) nil)

-- the end of an input within a line
pub finished_some : (s : State) (out : List ℕ) (r : Result (Unit {0}) AllocError) (m : Result (Unit {0}) Stop) (s' : State) (out' : List ℕ) → 0 < length s.kept → LineEnded s [] out r s' out' → MatchResult r (λ u. m ≡ Ok u) (λ e. m ≡ Err (Memory 0))
    → Finished s out m s' out'
finished_some s out (Err e) m s' out' some done told = rw told (refl, done.0, done.1)
finished_some s out (Ok u) m s' out' some done told =
    let line : clipped (s.kept ++ []) ≡ clipped s.kept = ap clipped (append-nil s.kept) in
    rw told (
      done.0 ∙ ap (λ d. record { desk = d; lines = next s.lines; kept = [] }) (ap (after s.desk) line ∙ after-clipped s.desk s.kept) ∙ sym (last_some s.kept some s (ended s s.kept)),
      done.1 ∙ ap (λ t. out ++ t) (ap (ended_says s) line ∙ printed-clipped (next s.lines) s.desk s.kept ∙ sym (last_some s.kept some [] (ended_says s s.kept))),
    )
  where
    last_some : {X : Type 0} (k : List ℕ) → 0 < length k → (x y : X) → last_line k x y ≡ y
    last_some [] l x y = absurd (omega arith)
    last_some (c ∷ cs) l x y = refl
