-- What a ranking owes.
use Rattle.std.specs.Prelude.{◌≡◌, ℕ, Bool, true, ◌⊎◌, List}

-- exactly one of three facts holds
abbrev pub ExactlyOne : Type 0 → Type 0 → Type 0 → Type 0
ExactlyOne P Q R = (P × (Q → ⊥) × (R → ⊥)) ⊎ ((P → ⊥) × Q × (R → ⊥)) ⊎ ((P → ⊥) × (Q → ⊥) × R)

-- x comes before y, has the same rank, or comes after it; the same rank is that all ranking fields are equal
abbrev pub Trichotomy : {T : Type 0} → (T → T → Bool) → (T → List ℕ) → T → T → Type 0
Trichotomy before fields x y = ExactlyOne (before x y ≡ true) (fields x ≡ fields y) (before y x ≡ true)

-- the law of a ranking: of two records exactly one of before, same and after holds, and before is transitive
pub record Lawful {T : Type 0} (before : T → T → Bool) (fields : T → List ℕ) : Type 0 where
  pub one : (x y : T) → Trichotomy before fields x y
  pub trans : (x y z : T) → before x y ≡ true → before y z ≡ true → before x z ≡ true
