-- What a refused line prints, and what it leaves of the desk.
use Rattle.std.proofs.Common.{◌≡◌, ℕ, cond, List, ◌++◌, is_ok, Ok, Err, Result, refl}
use Rattle.std.specs.declared.alloc.AllocError.{AllocError}
use Rattle.ordered.specs.Files.{told, left}
use Rattle.terms.specs.declared.faults.LineFault.{LineFault}
use Rattle.evening_desk.specs.declared.desk.Desk.{Desk}
use Rattle.evening_desk.specs.Evening.{Held, held, outcome, refusal_text, printed_of, after, printed, Carries, Worked}

-- a refused line prints its refusal and leaves the desk as it was
refused : (n : ℕ) (h : Held) (o : Result Held LineFault) (f : LineFault) → Err f ≡ told o → (printed_of n o ≡ refusal_text n f) × (left h o ≡ h)
refused n h (Ok g) f e = (cc, cc)
refused n h (Err g) f e = (cc, refl)

pub worked_refused : (d d' : Desk) (n : ℕ) (line out text out' : List ℕ) (f : LineFault) (r : Result (Unit {0}) AllocError) → Carries d (outcome (held d) line) (Err f) d' → text ≡ refusal_text n f
    → out' ≡ cond (is_ok r) (out ++ text) out → Worked (held d) n line out r (held d') out'
unfolding after printed
worked_refused d d' n line out text out' f (Ok u) c t o = let p = refused n (held d) (outcome (held d) line) f c.answered in (c.leaves, cc)
worked_refused d d' n line out text out' f (Err m) c t o = let p = refused n (held d) (outcome (held d) line) f c.answered in (cc, o)
