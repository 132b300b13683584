-- What names stand for behind the globals and some functions of a generated program.
use Rattle.std.proofs.Common.{◌≡◌, ℕ, zero, suc, ◌<◌, ◌≤◌, ◌^◌, Bool, true, false, List, [], ◌∷◌, ◌++◌, append_assoc, append-nil, Some, None, refl, sym, ap, ◌∙◌, arith}
use Rattle.std.specs.Prelude.{bytes_eq, drop}
use Rattle.std.proofs.lemmas.Fmt.{decimal_digit}
use Rattle.c_arith.specs.declared.int_type.IntType.TheVariants.{Int}
use Rattle.c_language.specs.Words.{Bytes}
use Rattle.c_language.specs.DeclaredTypes.{integer}
use Rattle.c_language.specs.Scopes.{Entry, Meaning, found_in}
use Rattle.big_laws.specs.Trees.{global_name, function_name}
use Rattle.big_laws.proofs.Counted.{counted, split}
use Rattle.big_laws.proofs.Digits.{names_differ, own_name}

-- a variable of type int
abbrev pub an_int : ℕ → Meaning
an_int id = Meaning.Variable id (Some (integer Int))

abbrev pub variable_entry : ℕ → Bytes → Entry
variable_entry id name = record { name = name; meaning = an_int id }

abbrev pub function_entry : ℕ → Entry
function_entry number = record { name = function_name number; meaning = Meaning.Function }

abbrev pub global_entries : List Entry
global_entries = variable_entry 0 (global_name 0) ∷ (variable_entry 1 (global_name 1) ∷ (variable_entry 2 (global_name 2) ∷ (variable_entry 3 (global_name 3) ∷ [])))

-- the names behind the first n functions
abbrev pub names_behind : ℕ → List Entry
names_behind n = global_entries ++ counted function_entry n

-- ---- names in any list

not_here : (w : Bytes) (e : Entry) (rest : List Entry) → bytes_eq w e.name ≡ false → found_in w (e ∷ rest) ≡ found_in w rest
not_here w e rest apart = rw apart

found_here : (w : Bytes) (e : Entry) (rest : List Entry) → bytes_eq w e.name ≡ true → found_in w (e ∷ rest) ≡ Some e.meaning
found_here w e rest same = rw same

none_later : (w : Bytes) (e : Entry) (rest : List Entry) (b : Bool) → bytes_eq w e.name ≡ b → found_in w (e ∷ rest) ≡ None → found_in w rest ≡ None
none_later w e rest true is h =
    let found : Some e.meaning ≡ None = sym (found_here w e rest is) ∙ h in
    cc
none_later w e rest false is h = sym (not_here w e rest is) ∙ h

-- a name that isn't found is found in no end of the list
pub none_behind : (w : Bytes) (n : ℕ) (es : List Entry) → found_in w es ≡ None → found_in w (drop n es) ≡ None
none_behind w zero es h = h
none_behind w (suc n) [] h = h
none_behind w (suc n) (e ∷ es) h = none_behind w n es (none_later w e es (bytes_eq w e.name) refl h)

-- ---- names behind some functions

-- a name that none of the functions has is looked for behind them
pub behind_functions : (w : Bytes) (n : ℕ) (rest : List Entry) → ((k : ℕ) → k ≤ n → bytes_eq w (function_name k) ≡ false)
    → found_in w (counted function_entry n ++ rest) ≡ found_in w rest
behind_functions w zero rest apart = refl
behind_functions w (suc n) rest apart =
    ap (found_in w) (append_assoc (counted function_entry n) (function_entry (suc n) ∷ []) rest)
    ∙ behind_functions w n (function_entry (suc n) ∷ rest) (λ k le. apart k (omega (arith, le)))
    ∙ not_here w (function_entry (suc n)) rest (apart (suc n) (omega arith))

-- a global is found
pub global_found : (q n : ℕ) (rest : List Entry) → q < 4 → found_in (global_name q) (names_behind n ++ rest) ≡ Some (an_int q)
global_found zero n rest lt = rw (decimal_digit zero (omega arith)) refl
global_found (suc zero) n rest lt = rw (decimal_digit (suc zero) (omega arith), decimal_digit zero (omega arith)) refl
global_found (suc (suc zero)) n rest lt =
    rw (decimal_digit (suc (suc zero)) (omega arith), decimal_digit zero (omega arith), decimal_digit (suc zero) (omega arith)) refl
global_found (suc (suc (suc zero))) n rest lt =
    rw (decimal_digit (suc (suc (suc zero))) (omega arith), decimal_digit zero (omega arith), decimal_digit (suc zero) (omega arith), decimal_digit (suc (suc zero)) (omega arith)) refl
global_found (suc (suc (suc (suc k)))) n rest lt = absurd (omega (arith, lt))

-- one of the functions is found
pub function_found : (j n : ℕ) (rest : List Entry) → j < n → n < 2 ^ 64 → found_in (function_name (suc j)) (names_behind n ++ rest) ≡ Some Meaning.Function
function_found j n rest below small =
    let w = function_name (suc j) in
    let s = split function_entry j n rest below in
    ap (found_in w) s.is
    ∙ behind_functions w j (function_entry (suc j) ∷ s.later) (λ k le. names_differ (suc j) k (omega (arith, below, small)) (omega (arith, le, below, small)) (λ e. omega (arith, le, e)))
    ∙ found_here w (function_entry (suc j)) s.later (own_name w)

-- and the next isn't
pub function_fresh : (n : ℕ) → suc n < 2 ^ 64 → found_in (function_name (suc n)) (names_behind n) ≡ None
function_fresh n small =
    let w = function_name (suc n) in
    ap (found_in w) (sym (append-nil (counted function_entry n)))
    ∙ behind_functions w n [] (λ k le. names_differ (suc n) k small (omega (arith, le, small)) (λ e. omega (arith, le, e)))
