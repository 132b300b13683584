-- Scopes whose variables have a property, which each variable that is numbered later has, too.
use Rattle.std.proofs.Common.{◌≡◌, ℕ, ◌+◌, ◌≤◌, ◌<◌, List, [], ◌∷◌, ◌++◌, Bool, true, false, Some, option_map, sym, subst, arith, lt_of_lt_of_le}
use Rattle.std.specs.Prelude.{if◌then◌else◌, bytes_eq}
use Rattle.std.specs.List.{find}
use Rattle.c_tree.specs.declared.raw.program.RawInit.{RawInit}
use Rattle.c_tree.specs.declared.raw.program.RawProgram.{RawProgram}
use Rattle.c_tree.specs.declared.raw.expr.RawVar.{RawVar}
use Rattle.c_language.specs.Words.{Bytes}
use Rattle.c_language.specs.Scopes.{Scope, Meaning, Entry, found_in, with_variable}
use Rattle.c_language.specs.ProgramOf.{variable_number}
use Rattle.c_language.proofs.Options.{none_there, some_same}

-- what a name stands for: a variable with the property that was numbered by then, or a function
abbrev pub Holds : (ℕ → Type 0) → ℕ → Meaning → Type 0
Holds P n (Meaning.Variable id t) = P id × (id < n)
Holds P n Meaning.Function = Unit {0}

abbrev pub AllHold : (ℕ → Type 0) → ℕ → List Entry → Type 0
AllHold P n [] = Unit {0}
AllHold P n (x ∷ es) = Holds P n x.meaning × AllHold P n es

pub holds_more : (P : ℕ → Type 0) (n : ℕ) (es : List Entry) (x : Entry) → AllHold P n es → Holds P n x.meaning → AllHold P n (es ++ x ∷ [])
holds_more P n [] x c h = (h, tt)
holds_more P n (y ∷ es) x c h = (c.0, holds_more P n es x c.1 h)

pub holds_change : (P Q : ℕ → Type 0) (n m : ℕ) → ((id : ℕ) → P id → id < n → Q id × (id < m)) → (es : List Entry) → AllHold P n es → AllHold Q m es
holds_change P Q n m f [] c = tt
holds_change P Q n m f (x ∷ es) c = (by_meaning x.meaning c.0, holds_change P Q n m f es c.1)
  where
    by_meaning : (u : Meaning) → Holds P n u → Holds Q m u
    by_meaning (Meaning.Variable id t) h = f id h.0 h.1
    by_meaning Meaning.Function h = tt

pub holds_found : (P : ℕ → Type 0) (n : ℕ) (x : Bytes) (es : List Entry) (id : ℕ) → variable_number (found_in x es) ≡ Some id → AllHold P n es → P id × (id < n)
holds_found P n x [] id h c = none_there h
holds_found P n x (y ∷ es) id h c = by_name (bytes_eq x y.name) h (λ q. holds_found P n x es id q c.1)
  where
    by_meaning : (u : Meaning) → variable_number (Some u) ≡ Some id → Holds P n u → P id × (id < n)
    by_meaning (Meaning.Variable j t) q g = subst (λ (z : ℕ). P z × (z < n)) (some_same q) g
    by_meaning Meaning.Function q g = none_there q

    by_name : (b : Bool) → variable_number (option_map (λ (z : Entry). z.meaning) (if b then Some y else find (λ (e : Entry). bytes_eq x e.name) es)) ≡ Some id → (variable_number (found_in x es) ≡ Some id → P id × (id < n)) → P id × (id < n)
    by_name true q later = by_meaning y.meaning q c.0
    by_name false q later = later q

-- the variables in scope have the property and were numbered before, and so has each number that is still to come
abbrev pub Spans : (ℕ → Type 0) → Scope → Type 0
Spans P scope = AllHold P scope.variables scope.names × ((id : ℕ) → scope.variables ≤ id → P id)

pub spans_later : (P : ℕ → Type 0) (scope next : Scope) → next.names ≡ scope.names → scope.variables ≤ next.variables → Spans P scope → Spans P next
spans_later P scope next same grown s =
    (subst (AllHold P next.variables) (sym same) (holds_change P P scope.variables next.variables (λ id p q. (p, lt_of_lt_of_le q grown)) scope.names s.0), λ id h. s.1 id (omega (arith, grown, h)))

-- a variable more
pub spans_more : (P : ℕ → Type 0) (raw : RawProgram) (scope : Scope) (v : RawVar) (i : RawInit) → Spans P scope → Spans P (with_variable raw v i scope)
spans_more P raw scope v i s =
    let le : scope.variables ≤ scope.variables = omega arith in
    let lt : scope.variables < scope.variables + 1 = omega arith in
    (holds_more P (scope.variables + 1) scope.names _ (holds_change P P scope.variables (scope.variables + 1) (λ id p q. (p, omega (arith, q))) scope.names s.0) (s.1 scope.variables le, lt), λ id h. s.1 id (omega (arith, h)))

-- ---- numbers that aren't between two others

pub data Gap (m n : ℕ) : ℕ → Type 0 where
  below : {id : ℕ} → id < m → Gap m n id
  above : {id : ℕ} → n ≤ id → Gap m n id

pub not_between : {A : Type 0} (m n id : ℕ) → Gap m n id → m ≤ id → id < n → A
not_between m n id (below h) p q = absurd (omega (arith, h, p))
not_between m n id (above h) p q = absurd (omega (arith, h, q))

abbrev pub Any : ℕ → Type 0
Any id = Unit {0}

-- behind a part that declares nothing for what follows, its numbers are passed over
pub gap_spans : (scope next : Scope) → Spans Any scope → next.names ≡ scope.names → scope.variables ≤ next.variables → Spans (Gap scope.variables next.variables) next
gap_spans scope next s same grown = (
  subst (AllHold (Gap scope.variables next.variables) next.variables) (sym same)
      (holds_change Any (Gap scope.variables next.variables) scope.variables next.variables (λ id p q. (below q, lt_of_lt_of_le q grown)) scope.names s.0),
  λ id h. above h,
)
