-- A case for each answer of a test, and answers that differ.
use Rattle.std.proofs.Common.{◌≡◌, Bool, true, false, cond, ◌||◌, refl, subst}

abbrev is_false : Bool → Type 0
is_false false = Unit {0}
is_false true = ⊥

pub false_true : {A : Type 0} → ◌≡◌ {A = Bool} false true → A
false_true h = absurd (subst is_false h tt)

-- a case for each answer of a test
pub by_answer : {G : Type 0} (b : Bool) → (b ≡ true → G) → (b ≡ false → G) → G
by_answer true is isnt = is refl
by_answer false is isnt = isnt refl

-- a case for each answer of the test of a conditional
pub by_test : {A G : Type 0} {x y z : A} (b : Bool) → cond b x y ≡ z → (b ≡ true → x ≡ z → G) → (b ≡ false → y ≡ z → G) → G
by_test true e is isnt = is refl e
by_test false e is isnt = isnt refl e

-- a case for each test of two of which one passes
pub by_or : {G : Type 0} (a b : Bool) → (a || b) ≡ true → (a ≡ true → G) → (b ≡ true → G) → G
by_or true b h left right = left refl
by_or false b h left right = right h

pub or_none : (b : Bool) → (b || false) ≡ b
or_none true = refl
or_none false = refl

pub or_assoc : (a b c : Bool) → ((a || b) || c) ≡ (a || (b || c))
or_assoc true b c = refl
or_assoc false b c = refl

-- none of four tests passes
pub none_of : (a b c d : Bool) → a ≡ false → b ≡ false → c ≡ false → d ≡ false → (a || (b || (c || (d || false)))) ≡ false
none_of a b c d first second third fourth = rw (first, second, third, fourth) refl
