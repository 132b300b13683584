-- The check of a format, by its conversions.
use Rattle.std.proofs.Common.{◌≡◌, ℕ, List, [], length, map, Option, Some, None, Result, Err, refl, sym, ap, subst, true≢false}
use Rattle.std.specs.Prelude.{◌==◌, option_map, is_some, unwrap_or}
use Rattle.std.proofs.lemmas.List.{length-map}
use Rattle.c_tree.specs.declared.raw.program.RawProgram.{RawProgram}
use Rattle.c_tree.specs.declared.raw.statement.RawArg.{RawArg}
use Rattle.c_language.specs.Formats as formats
use Rattle.c_language.specs.Formats.{Piece}
use Rattle.c_language.specs.Scopes.{Scope}
use Rattle.c_types_base.specs.declared.fault.Fault.{Fault}
use Rattle.c_types_checks.specs.declared.conversions.Conversion.{Conversion}
use Rattle.c_types_checks.specs.CallChecks.{check_each, fits_conversion, check_pieces}
use Rattle.c_types_checks.specs.Checking.{Verdict, Decides, given_or, unless_broken}
use Rattle.c_types_checks.specs.Conversions.{conversion_of}

-- a format without pieces
pub no_pieces : (f : List Piece → Verdict) (o : Option (List Piece)) → None ≡ option_map formats.conversions o → given_or 19 f o ≡ Err 19
no_pieces f None is = refl
no_pieces f (Some ps) is = absurd (true≢false (sym (ap is_some is)))

module _ (raw : RawProgram) (scope : Scope) (args : List RawArg) (x : Result (Unit {0}) Fault) where
  abbrev HasEach : List formats.Conversion → Type 0
  HasEach cs = Decides (unless_broken (length args == length cs) 19 (check_each raw scope 19 fits_conversion cs args)) x

  by_pieces : (cs : List formats.Conversion) (o : Option (List Piece)) → Some cs ≡ option_map formats.conversions o → HasEach cs → Decides (given_or 19 (check_pieces raw scope args) o) x
  by_pieces cs None is h = absurd (true≢false (ap is_some is))
  by_pieces cs (Some ps) is h = subst HasEach (ap (λ (found : Option (List formats.Conversion)). unwrap_or found []) is) h

  -- a format with conversions
  pub some_pieces : (cs : List Conversion) (o : Option (List Piece)) → Some (map conversion_of cs) ≡ option_map formats.conversions o
      → Decides (unless_broken (length args == length cs) 19 (check_each raw scope 19 fits_conversion (map conversion_of cs) args)) x
      → Decides (given_or 19 (check_pieces raw scope args) o) x
  some_pieces cs o is h =
      by_pieces (map conversion_of cs) o is
      (subst (λ (n : ℕ). Decides (unless_broken (length args == n) 19 (check_each raw scope 19 fits_conversion (map conversion_of cs) args)) x) (sym (length-map cs conversion_of)) h)

-- the format of a call, and the arguments behind it
pub printed : (f : List RawArg → List ℕ → Verdict) (rest later : List RawArg) (o : Option (List ℕ)) (text w : List ℕ) (x : Result (Unit {0}) Fault)
    → Some text ≡ o → later ≡ rest → w ≡ text → Decides (f later w) x → Decides (given_or 19 (f rest) o) x
printed f rest later o text w x is behind same h =
    subst (λ (p : Option (List ℕ)). Decides (given_or 19 (f rest) p) x) is
    (subst (λ (v : List ℕ). Decides (f rest v) x) same (subst (λ (args : List RawArg). Decides (f args w) x) behind h))
