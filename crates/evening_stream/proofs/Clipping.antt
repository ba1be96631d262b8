-- A line is read the same from its first 401 bytes: a longer one is too long either way.
use Rattle.std.proofs.Common.{◌≡◌, ℕ, zero, suc, ◌≤◌, eqb, ◌⊎◌, List, [], ◌∷◌, ◌++◌, length, take, is_err, Some, None, Ok, Err, Option, Result, false, sym, refl, ap, ◌∙◌, inl, inr, ⊎_elim, arith}
use Rattle.std.specs.Option.{option_map}
use Rattle.std.specs.declared.alloc.AllocError.{AllocError}
use Rattle.std.proofs.lemmas.List.{take-take}
use Rattle.std.proofs.lemmas.Bool.{cases_Bool, cond-false, lt-leb}
use Rattle.ordered.specs.Files.{left}
use Rattle.terms.specs.declared.faults.ReaderFault.TheVariants.{Length}
use Rattle.evening_file.specs.Lines.{up_to, fitting, line_said}
use Rattle.evening_desk.specs.Evening.{Held, unless_reader, printed_of, after, printed, Worked}
use Rattle.evening_stream.specs.Input.{State, next, clipped, LineEnded}

-- no line, or one of at least n bytes
abbrev Long : ℕ → Option (List ℕ) → Type 0
Long n None = Unit {0}
Long n (Some l) = n ≤ length l

long_zero : (o : Option (List ℕ)) → Long 0 o
long_zero None = tt
long_zero (Some l) = omega arith

long_more : (n c : ℕ) (o : Option (List ℕ)) → Long n o → Long (suc n) (option_map (λ l. c ∷ l) o)
long_more n c None h = tt
long_more n c (Some l) h = omega arith

up_to-take : (n : ℕ) (bs : List ℕ) → (up_to (take n bs) ≡ up_to bs) ⊎ ((up_to (take n bs) ≡ None) × Long n (up_to bs))
up_to-take zero bs = inr (refl, long_zero (up_to bs))
up_to-take (suc n) [] = inl refl
up_to-take (suc n) (c ∷ bs) =
    ⊎_elim
    (λ e. rw e (inl refl))
    (λ e. rw e (⊎_elim (λ same. inl (ap (option_map (λ l. c ∷ l)) same)) (λ h. inr (ap (option_map (λ l. c ∷ l)) h.0, long_more n c (up_to bs) h.1)) (up_to-take n bs)))
    (cases_Bool (eqb c 10))

too_long : (o : Option (List ℕ)) → Long 401 o → Err Length ≡ fitting o
too_long None h = refl
too_long (Some l) h = sym (cond-false _ _ _ (lt-leb (length l) 400 h))

said_clipped : (bs : List ℕ) → line_said (clipped bs) ≡ line_said bs
said_clipped bs = ⊎_elim (λ e. ap fitting e) (λ h. ap fitting h.0 ∙ too_long (up_to bs) h.1) (up_to-take 401 bs)

pub after-clipped : (h : Held) (bs : List ℕ) → after h (clipped bs) ≡ after h bs
unfolding after
after-clipped h bs = ap (λ s. left h (unless_reader h s)) (said_clipped bs)

pub printed-clipped : (n : ℕ) (h : Held) (bs : List ℕ) → printed n h (clipped bs) ≡ printed n h bs
unfolding printed
printed-clipped n h bs = ap (λ s. printed_of n (unless_reader h s)) (said_clipped bs)

-- a line that the desk worked ends the line that was kept, where both have the same first bytes
pub line_ended : (s : State) (h h' : Held) (line rest : List ℕ) (number : ℕ) (r : Result (Unit {0}) AllocError) (out out' kept' : List ℕ) → h ≡ s.desk → number ≡ next s.lines → clipped line ≡ clipped (s.kept ++ rest) → is_err r ≡ false → Worked h number line out r h' out' → kept' ≡ []
    → LineEnded s rest out (Ok tt) (record { desk = h'; lines = number; kept = kept' }) out'
line_ended s h h' line rest number (Err e) out out' kept' held_is n_is same ok done none = cc
line_ended s h h' line rest number (Ok u) out out' kept' held_is n_is same ok done none =
    let whole = clipped (s.kept ++ rest) in
    let left_is : h' ≡ after s.desk whole = done.0 ∙ sym (after-clipped h line) ∙ (λ i. after (held_is i) (same i)) in (
      λ i. record { desk = left_is i; lines = n_is i; kept = none i },
      done.1 ∙ ap (λ t. out ++ t) (sym (printed-clipped number h line) ∙ (λ i. printed (n_is i) (held_is i) (same i))),
    )

pub clipped-clipped : (bs : List ℕ) → clipped (clipped bs) ≡ clipped bs
clipped-clipped bs = take-take 401 401 bs (omega arith)
