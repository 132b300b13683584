-- What stays of a statement without parts that stays: it is of the same form, and its arguments are those of the parameters that stay.
use Rattle.std.proofs.Common.{◌≡◌, ℕ, ◌+◌, ◌<◌, List, length, Bool, true, false, Some, refl, sym, ap, ◌∙◌, arith}
use Rattle.std.specs.Prelude.{if◌then◌else◌}
use Rattle.c_tree.specs.declared.raw.statement.RawArg.{RawArg}
use Rattle.c_tree.specs.declared.raw.statement.RawTarget.{RawTarget}
use Rattle.c_tree.specs.declared.raw.statement.RawTarget.TheVariants as target
use Rattle.c_tree.specs.declared.raw.statement.RawStatement.{RawStatement}
use Rattle.c_tree.specs.declared.raw.statement.RawStatement.TheOpen.{RawStatement-F}
use Rattle.c_tree.specs.declared.raw.statement.RawArm.{RawArm}
use Rattle.c_language.specs.Words.{Bytes}
use Rattle.c_tree.specs.declared.raw.program.RawProgram.{RawProgram}
use Rattle.c_language.specs.Scopes.{Scope, opened}
use Rattle.c_language.specs.Phrases.{Part}
use Rattle.c_language.specs.Uses.{is_library_function}
use Rattle.projection.specs.Kept.{Kept, chosen}
use Rattle.c_scope_laws.specs.Agreement.{GivesStill, args_left, simple_part}
use Rattle.c_scope_laws.specs.Thinning.{heads_of, KeepsResult, kept_args, ArgsFit, kept_form, FormFits, declares}
use Rattle.c_scope_laws.proofs.ChosenLists.{chosen_same}

module _ (k : Kept Bytes) where
  pub args_fit : (f : Bytes) (args : List RawArg) (n : ℕ) → ArgsFit k f args n → kept_args k f n args ≡ args_left (heads_of k) f args
  args_fit f args n fits = by_library (is_library_function f) refl
    where
      from_first : (strange : is_library_function f ≡ false) (i : ℕ) → i < length args → k.argument n (0 + i) ≡ k.parameter f (0 + i)
      from_first strange i within = let e : 0 + i ≡ i = omega arith in ap (k.argument n) e ∙ fits strange i within ∙ sym (ap (k.parameter f) e)

      by_library : (b : Bool) → is_library_function f ≡ b → (if b then args else chosen (k.argument n) 0 args) ≡ (if b then args else chosen (k.parameter f) 0 args)
      by_library true known = refl
      by_library false strange = chosen_same (k.argument n) (k.parameter f) 0 args (from_first strange)

  pub gives_still : (f : Bytes) (n : ℕ) (to : RawTarget) → KeepsResult k to f n → GivesStill (heads_of k) f to
  gives_still f n target.None h = tt
  gives_still f n (target.Place a) h = h.gives
  gives_still f n (target.Declared v) h = h.gives

  -- it is a phrase where what stays of it is one, and declares what that does
  pub form_part : (n : ℕ) (x : RawStatement-F RawStatement RawArm) (part : Part) → simple_part (kept_form k n x) ≡ Some part → (p : Part) × (simple_part x ≡ Some p)
  form_part n (RawStatement-F.Declare l v i) part h = (part, h)
  form_part n (RawStatement-F.Assign l left op right) part h = (part, h)
  form_part n (RawStatement-F.Bump l a up before) part h = (part, h)
  form_part n (RawStatement-F.Call l to f args) part h = (_, refl)
  form_part n (RawStatement-F.Heap l to cast m) part h = (part, h)
  form_part n (RawStatement-F.If l a b c) part h = (part, h)
  form_part n (RawStatement-F.While l a b) part h = (part, h)
  form_part n (RawStatement-F.Do l a b) part h = (part, h)
  form_part n (RawStatement-F.For l i a step b) part h = (part, h)
  form_part n (RawStatement-F.Switch l a arms) part h = (part, h)
  form_part n (RawStatement-F.Block l b) part h = (part, h)
  form_part n (RawStatement-F.Return l a) part h = (part, h)

  pub form_declares : (n : ℕ) (x : RawStatement-F RawStatement RawArm) → declares (kept_form k n x) ≡ declares x
  form_declares n (RawStatement-F.Declare l v i) = refl
  form_declares n (RawStatement-F.Assign l left op right) = refl
  form_declares n (RawStatement-F.Bump l a up before) = refl
  form_declares n (RawStatement-F.Call l to f args) = refl
  form_declares n (RawStatement-F.Heap l to cast m) = refl
  form_declares n (RawStatement-F.If l a b c) = refl
  form_declares n (RawStatement-F.While l a b) = refl
  form_declares n (RawStatement-F.Do l a b) = refl
  form_declares n (RawStatement-F.For l i a step b) = refl
  form_declares n (RawStatement-F.Switch l a arms) = refl
  form_declares n (RawStatement-F.Block l b) = refl
  form_declares n (RawStatement-F.Return l a) = refl

  module _ (raw : RawProgram) (scope : Scope) where
    -- a block that is opened changes no function
    pub fits_opened : (x : RawStatement-F RawStatement RawArm) → FormFits k raw x scope → FormFits k raw x (opened scope)
    fits_opened (RawStatement-F.Declare l v i) h = h
    fits_opened (RawStatement-F.Assign l left op right) h = h
    fits_opened (RawStatement-F.Bump l a up before) h = h
    fits_opened (RawStatement-F.Call l to f args) h = h
    fits_opened (RawStatement-F.Heap l to cast m) h = h
    fits_opened (RawStatement-F.If l a b c) h = h
    fits_opened (RawStatement-F.While l a b) h = h
    fits_opened (RawStatement-F.Do l a b) h = h
    fits_opened (RawStatement-F.For l i a step b) h = h
    fits_opened (RawStatement-F.Switch l a arms) h = h
    fits_opened (RawStatement-F.Block l b) h = h
    fits_opened (RawStatement-F.Return l a) h = h

    pub fits_before : (x : RawStatement-F RawStatement RawArm) → FormFits k raw x (opened scope) → FormFits k raw x scope
    fits_before (RawStatement-F.Declare l v i) h = h
    fits_before (RawStatement-F.Assign l left op right) h = h
    fits_before (RawStatement-F.Bump l a up before) h = h
    fits_before (RawStatement-F.Call l to f args) h = h
    fits_before (RawStatement-F.Heap l to cast m) h = h
    fits_before (RawStatement-F.If l a b c) h = h
    fits_before (RawStatement-F.While l a b) h = h
    fits_before (RawStatement-F.Do l a b) h = h
    fits_before (RawStatement-F.For l i a step b) h = h
    fits_before (RawStatement-F.Switch l a arms) h = h
    fits_before (RawStatement-F.Block l b) h = h
    fits_before (RawStatement-F.Return l a) h = h
