-- Going along a list of statements and the thinner one: what comes at each place stands for something of the text, and scopes follow one another.
use Rattle.std.proofs.Common.{◌≡◌, ℕ, List, [], ◌∷◌, ◌++◌, map, true, false, Option, Some, option_map, refl, sym, ap, ap₂, subst, ◌∙◌, append_assoc, append-nil}
use Rattle.c_tree.specs.declared.raw.expr.RawExpr.{RawExpr}
use Rattle.c_tree.specs.declared.raw.expr.RawVar.{RawVar}
use Rattle.c_tree.specs.declared.raw.program.RawInit.{RawInit}
use Rattle.c_tree.specs.declared.raw.program.RawInit.TheVariants as init
use Rattle.c_tree.specs.declared.raw.program.RawProgram.{RawProgram}
use Rattle.c_tree.specs.declared.raw.statement.RawTarget.{RawTarget}
use Rattle.c_tree.specs.declared.raw.statement.RawTarget.TheVariants as target
use Rattle.c_tree.specs.declared.raw.statement.RawArg.{RawArg}
use Rattle.c_tree.specs.declared.raw.statement.RawAmount.{RawAmount}
use Rattle.c_tree.specs.declared.raw.statement.RawTypeName.{RawTypeName}
use Rattle.c_tree.specs.declared.raw.statement.RawLabel.{RawLabel}
use Rattle.c_tree.specs.declared.raw.statement.RawStatement.{RawStatement, roll-RawStatement, map-RawStatement, fold-roll-RawStatement}
use Rattle.c_tree.specs.declared.raw.statement.RawStatement.TheOpen.{RawStatement-F}
use Rattle.c_tree.specs.declared.raw.statement.RawStatement.TheVariants as s
use Rattle.c_tree.specs.declared.raw.statement.RawArm.{RawArm}
use Rattle.c_language.specs.Words.{Bytes}
use Rattle.c_language.specs.Scopes.{closed, Scope, Scoped, with_variable, opened, numbered, begun, in_order, after_all, after_block, part_gives, after_part, scope_of_test, scope_of_body}
use Rattle.c_language.specs.Phrases.{Stand, InFile, InHead, InBlock, InArm, InFor, Part, Declares, Begins, Assigns, Bumps, Calls, Allocates, Tests, Switches, Returns, Phrases, phrase, begun_phrases, joined_at, at_stand, ArmText, labels_of, phrases_of_arms, scoped_step, scoped_arm, scoped, scoped_of_arm}
use Rattle.c_language.specs.Uses.{holds}
use Rattle.c_language.proofs.ScopedForms.{scoped-Declare, scoped-Call, scoped-Heap, scoped-If, scoped-While, scoped-Do, scoped-For, scoped-Switch, scoped-Block, scoped_of_arm-arm}
use Rattle.c_language.proofs.Options.{none_there, some_same}
use Rattle.c_language.proofs.Tests.{false_true}
use Rattle.c_scope_laws.specs.Agreement.{Names, in_expression, NamesFunction, SameVariable, StandsFor, there, out_of_for, CallStandsFor, as_it_is, elsewhere, StoresLess, kept, lost, ReturnFits, has_no_head, PartsAgree, simple_part}
use Rattle.projection.specs.Kept.{Kept}
use Rattle.c_scope_laws.specs.Thinning.{heads_of, NamesStay, BeginIs, ResultStays, kept_args, ArgsFit, kept_form, FormFits, declares, Thins, ThinAll, ThinsPart, ThinArms, ArmsGo}
use Rattle.c_scope_laws.proofs.Outside.{variable_same}
use Rattle.c_scope_laws.specs.Following.{TextsAgree, ScopesAgree}
use Rattle.c_scope_laws.proofs.Following.{numbered_kept, numbered_gone, follows_opened, follows_closed, follows_gone, variable_kept, variable_gone, follows_numbered, places_agree, places_beside}
use Rattle.c_language.specs.CallRules.{head_around}
use Rattle.c_scope_laws.proofs.KeptForms.{args_fit, form_part, form_declares}
use Rattle.c_scope_laws.proofs.Counterparts.{AreCounterparts, none_stand, one_stands, both_stand, front_gone, rest_gone, no_more}
use Rattle.c_language.specs.StatementGrammar.{arm}

-- a phrase names the same wherever it stands
declares_anywhere : {k : Kept Bytes} {scope : Scope} {v : RawVar} {i : RawInit} (stand : Stand) → NamesStay k scope (Declares InBlock v i) → NamesStay k scope (Declares stand v i)
declares_anywhere {k} {scope} {v} {i} stand h = record { names = λ x n. h.names x (names x n); functions = λ x n. none x n }
  where
    names : (x : Bytes) → Names (Declares stand v i) x → Names (Declares InBlock v i) x
    names x (Names.in_expression (holds c w)) = in_expression (holds c w)

    none : {A : Type 0} (x : Bytes) → NamesFunction (Declares stand v i) x → A
    none x n = elim n [ ]

begins_anywhere : {k : Kept Bytes} {scope : Scope} {v : RawVar} {i : RawInit} (stand : Stand) → NamesStay k scope (Begins InBlock v i) → NamesStay k scope (Begins stand v i)
begins_anywhere {k} {scope} {v} {i} stand h = record { names = λ x n. h.names x (names x n); functions = λ x n. none x n }
  where
    names : (x : Bytes) → Names (Begins stand v i) x → Names (Begins InBlock v i) x
    names x (Names.in_expression (holds c w)) = in_expression (holds c w)

    none : {A : Type 0} (x : Bytes) → NamesFunction (Begins stand v i) x → A
    none x n = elim n [ ]

calls_anywhere : {k : Kept Bytes} {scope : Scope} {to : RawTarget} {f : Bytes} {args : List RawArg} (stand : Stand) → NamesStay k scope (Calls InBlock to f args) → NamesStay k scope (Calls stand to f args)
calls_anywhere {k} {scope} {to} {f} {args} stand h = record { names = λ x n. h.names x (names x n); functions = λ x n. h.functions x (functions x n) }
  where
    names : (x : Bytes) → Names (Calls stand to f args) x → Names (Calls InBlock to f args) x
    names x (Names.in_expression (holds c w)) = in_expression (holds c w)
    names x Names.called = Names.called

    functions : (x : Bytes) → NamesFunction (Calls stand to f args) x → NamesFunction (Calls InBlock to f args) x
    functions x NamesFunction.called = NamesFunction.called

call_stands_for : {stand place : Stand} → StandsFor stand place → CallStandsFor stand place
call_stands_for there = as_it_is
call_stands_for out_of_for = elsewhere refl

from_for : (place : Stand) → CallStandsFor InFor place
from_for (InFile is_static) = elsewhere refl
from_for InHead = elsewhere refl
from_for InBlock = elsewhere refl
from_for InArm = elsewhere refl
from_for InFor = as_it_is

-- a number adds no name
pub at_number : {k : Kept Bytes} {scope : Scope} {part : Part} → NamesStay k scope part → NamesStay k (numbered scope) part
at_number h = record { names = h.names; functions = h.functions }

abbrev pub Statements : Type 0
Statements = Scoped (Stand → Phrases)

abbrev pub opened_form : RawProgram → RawStatement-F RawStatement RawArm → RawStatement-F Statements (Scoped ArmText)
opened_form text x = map-RawStatement RawStatement RawArm Statements (Scoped ArmText) (scoped text) (scoped_of_arm text) x

pub one_same : {x y : Statements} → x ≡ y → ◌≡◌ {A = List Statements} (x ∷ []) (y ∷ [])
one_same h = ap (λ (z : Statements). z ∷ []) h

pub two_same : {x y z w : Statements} → x ≡ y → z ≡ w → ◌≡◌ {A = List Statements} (x ∷ (z ∷ [])) (y ∷ (w ∷ []))
two_same h j = ap₂ (λ (p q : Statements). p ∷ (q ∷ [])) h j

module _ (k : Kept Bytes) (raw other : RawProgram) (texts : TextsAgree k raw other) (defined_here defined_there : ℕ) (owner_here owner_there : Option ℕ) where
  -- a statement in a scope, and what stays of it at a place of the other text
  pub record Walks (scope next : Scope) (stand place : Stand) (x : Statements) (ys : List Statements) : Type 0 where
    pub phrases : AreCounterparts k raw other (joined_at place (in_order ys next)) (x.gives scope stand)
    pub after : ScopesAgree k raw other defined_here defined_there owner_here owner_there (x.after scope) (after_all ys next)

  -- a list of statements
  pub record AllWalk (scope next : Scope) (stand place : Stand) (xs ys : List Statements) : Type 0 where
    pub phrases : AreCounterparts k raw other (joined_at place (in_order ys next)) (joined_at stand (in_order xs scope))
    pub after : ScopesAgree k raw other defined_here defined_there owner_here owner_there (after_all xs scope) (after_all ys next)

  -- a part of a for
  pub record PartWalks (scope next : Scope) (stand place : Stand) (x y : Option Statements) : Type 0 where
    pub phrases : AreCounterparts k raw other (at_stand place (part_gives y next)) (at_stand stand (part_gives x scope))
    pub after : ScopesAgree k raw other defined_here defined_there owner_here owner_there (after_part x scope) (after_part y next)

  -- the arms of a switch
  pub record ArmsWalk (scope next : Scope) (xs ys : List (Scoped ArmText)) : Type 0 where
    pub labels : labels_of (in_order ys next) ≡ labels_of (in_order xs scope)
    pub phrases : AreCounterparts k raw other (phrases_of_arms (in_order ys next)) (phrases_of_arms (in_order xs scope))
    pub after : ScopesAgree k raw other defined_here defined_there owner_here owner_there (after_all xs scope) (after_all ys next)

  one_walks : {scope next : Scope} {stand place : Stand} (x y : Statements) → AreCounterparts k raw other (y.gives next place) (x.gives scope stand) → ScopesAgree k raw other defined_here defined_there owner_here owner_there (x.after scope) (y.after next)
      → Walks scope next stand place x (y ∷ [])
  one_walks {scope} {next} {stand} {place} x y h f = record { phrases = no_more k raw other (y.gives next place) (x.gives scope stand) h; after = f }

  gone_walks : {scope next : Scope} {stand place : Stand} (x : Statements) → ScopesAgree k raw other defined_here defined_there owner_here owner_there (x.after scope) next → Walks scope next stand place x []
  gone_walks {scope} {next} {stand} {place} x f = record { phrases = none_stand k raw other (x.gives scope stand); after = f }

  -- a phrase stands for the same phrase
  pub same_stands : {scope next : Scope} (l : ℕ) (part : Part) → has_no_head part ≡ true → NamesStay k scope part → ScopesAgree k raw other defined_here defined_there owner_here owner_there scope next → AreCounterparts k raw other (phrase l next part ∷ []) (phrase l scope part ∷ [])
  same_stands {scope} {next} l part is stay f = one_stands k raw other l l scope next part part (PartsAgree.same is) (places_agree k raw other texts f stay)

  -- ---- statements without parts

  call_stands : {scope next : Scope} {stand place : Stand} (l : ℕ) (to less : RawTarget) (f : Bytes) (args : List RawArg) (n : ℕ) → StandsFor stand place → StoresLess (heads_of k) f to less → ArgsFit k f args n
      → NamesStay k scope (Calls InBlock less f (kept_args k f n args)) → ScopesAgree k raw other defined_here defined_there owner_here owner_there scope next
      → AreCounterparts k raw other (phrase l next (Calls place less f (kept_args k f n args)) ∷ []) (phrase l scope (Calls stand to f args) ∷ [])
  call_stands {scope} {next} {stand} {place} l to less f args n st stores fits stay h =
      one_stands k raw other l l scope next (Calls stand to f args) (Calls place less f (kept_args k f n args)) (PartsAgree.calls (call_stands_for st) stores (args_fit k f args n fits)) (places_agree k raw other texts h (calls_anywhere place stay))

  return_stands : {scope next : Scope} (l : ℕ) (value : Option RawExpr) → ReturnFits (heads_of k) (head_around raw scope) value → NamesStay k scope (Returns value) → ScopesAgree k raw other defined_here defined_there owner_here owner_there scope next
      → AreCounterparts k raw other (phrase l next (Returns value) ∷ []) (phrase l scope (Returns value) ∷ [])
  return_stands {scope} {next} l value fits stay h = one_stands k raw other l l scope next (Returns value) (Returns value) (PartsAgree.returns fits) (places_agree k raw other texts h stay)

  simple_walks : {scope next : Scope} {stand place : Stand} (x : RawStatement-F RawStatement RawArm) (part : Part) → simple_part (kept_form k scope.statements x) ≡ Some part → declares x ≡ false → k.statement scope.statements ≡ true → FormFits k raw x scope → NamesStay k scope part
      → StandsFor stand place → ScopesAgree k raw other defined_here defined_there owner_here owner_there scope next → Walks scope next stand place (scoped_step raw (opened_form raw x)) (scoped_step other (opened_form other (kept_form k scope.statements x)) ∷ [])
  simple_walks (RawStatement-F.Declare l v i) part h none is fits stay st f = false_true (sym none)
  simple_walks {scope} (RawStatement-F.Assign l left op right) part h none is fits stay st f =
      one_walks _ _ (same_stands l (Assigns left op right) refl (subst (NamesStay k scope) (sym (some_same h)) stay) f) (numbered_kept k raw other is f)
  simple_walks {scope} (RawStatement-F.Bump l left up before) part h none is fits stay st f =
      one_walks _ _ (same_stands l (Bumps left) refl (subst (NamesStay k scope) (sym (some_same h)) stay) f) (numbered_kept k raw other is f)
  simple_walks {scope} (RawStatement-F.Call l target.None g args) part h none is fits stay st f =
      one_walks _ _ (call_stands l target.None target.None g args scope.statements st (kept tt) fits.1 (subst (NamesStay k scope) (sym (some_same h)) stay) f) (numbered_kept k raw other is f)
  simple_walks {scope} (RawStatement-F.Call l (target.Place a) g args) part h none is fits stay st f =
      one_walks _ _ (call_stands l (target.Place a) (target.Place a) g args scope.statements st (kept fits.0.gives) fits.1 (subst (NamesStay k scope) (sym (some_same h)) stay) f) (numbered_kept k raw other is f)
  simple_walks (RawStatement-F.Call l (target.Declared v) g args) part h none is fits stay st f = false_true (sym none)
  simple_walks {scope} (RawStatement-F.Heap l target.None cast n) part h none is fits stay st f =
      one_walks _ _ (same_stands l (Allocates target.None cast n) refl (subst (NamesStay k scope) (sym (some_same h)) stay) f) (numbered_kept k raw other is f)
  simple_walks {scope} (RawStatement-F.Heap l (target.Place a) cast n) part h none is fits stay st f =
      one_walks _ _ (same_stands l (Allocates (target.Place a) cast n) refl (subst (NamesStay k scope) (sym (some_same h)) stay) f) (numbered_kept k raw other is f)
  simple_walks (RawStatement-F.Heap l (target.Declared v) cast n) part h none is fits stay st f = false_true (sym none)
  simple_walks {scope} (RawStatement-F.Return l value) part h none is fits stay st f =
      one_walks _ _ (return_stands l value fits (subst (NamesStay k scope) (sym (some_same h)) stay) f) (numbered_kept k raw other is f)
  simple_walks (RawStatement-F.If l a b c) part h none is fits stay st f = none_there h
  simple_walks (RawStatement-F.While l a b) part h none is fits stay st f = none_there h
  simple_walks (RawStatement-F.Do l a b) part h none is fits stay st f = none_there h
  simple_walks (RawStatement-F.For l i a step b) part h none is fits stay st f = none_there h
  simple_walks (RawStatement-F.Switch l a arms) part h none is fits stay st f = none_there h
  simple_walks (RawStatement-F.Block l b) part h none is fits stay st f = none_there h

  simple_goes_walks : {scope next : Scope} {stand place : Stand} (x : RawStatement-F RawStatement RawArm) (part : Part) → simple_part x ≡ Some part → declares x ≡ false → k.statement scope.statements ≡ false
      → ScopesAgree k raw other defined_here defined_there owner_here owner_there scope next → Walks scope next stand place (scoped_step raw (opened_form raw x)) []
  simple_goes_walks (RawStatement-F.Declare l v i) part h none is f = false_true (sym none)
  simple_goes_walks (RawStatement-F.Assign l left op right) part h none is f = gone_walks _ (numbered_gone k raw other is f)
  simple_goes_walks (RawStatement-F.Bump l left up before) part h none is f = gone_walks _ (numbered_gone k raw other is f)
  simple_goes_walks (RawStatement-F.Call l target.None g args) part h none is f = gone_walks _ (numbered_gone k raw other is f)
  simple_goes_walks (RawStatement-F.Call l (target.Place a) g args) part h none is f = gone_walks _ (numbered_gone k raw other is f)
  simple_goes_walks (RawStatement-F.Call l (target.Declared v) g args) part h none is f = false_true (sym none)
  simple_goes_walks (RawStatement-F.Heap l target.None cast n) part h none is f = gone_walks _ (numbered_gone k raw other is f)
  simple_goes_walks (RawStatement-F.Heap l (target.Place a) cast n) part h none is f = gone_walks _ (numbered_gone k raw other is f)
  simple_goes_walks (RawStatement-F.Heap l (target.Declared v) cast n) part h none is f = false_true (sym none)
  simple_goes_walks (RawStatement-F.Return l value) part h none is f = gone_walks _ (numbered_gone k raw other is f)
  simple_goes_walks (RawStatement-F.If l a b c) part h none is f = none_there h
  simple_goes_walks (RawStatement-F.While l a b) part h none is f = none_there h
  simple_goes_walks (RawStatement-F.Do l a b) part h none is f = none_there h
  simple_goes_walks (RawStatement-F.For l i a step b) part h none is f = none_there h
  simple_goes_walks (RawStatement-F.Switch l a arms) part h none is f = none_there h
  simple_goes_walks (RawStatement-F.Block l b) part h none is f = none_there h

  -- the scope after a statement without parts that declares nothing
  pub simple_after : (text : RawProgram) (x : RawStatement-F RawStatement RawArm) (part : Part) → simple_part x ≡ Some part → declares x ≡ false → (z : Scope) → (scoped_step text (opened_form text x)).after z ≡ numbered z
  simple_after text (RawStatement-F.Declare l v i) part h none z = false_true (sym none)
  simple_after text (RawStatement-F.Assign l left op right) part h none z = refl
  simple_after text (RawStatement-F.Bump l left up before) part h none z = refl
  simple_after text (RawStatement-F.Call l target.None g args) part h none z = refl
  simple_after text (RawStatement-F.Call l (target.Place a) g args) part h none z = refl
  simple_after text (RawStatement-F.Call l (target.Declared v) g args) part h none z = false_true (sym none)
  simple_after text (RawStatement-F.Heap l target.None cast n) part h none z = refl
  simple_after text (RawStatement-F.Heap l (target.Place a) cast n) part h none z = refl
  simple_after text (RawStatement-F.Heap l (target.Declared v) cast n) part h none z = false_true (sym none)
  simple_after text (RawStatement-F.Return l value) part h none z = refl
  simple_after text (RawStatement-F.If l a b c) part h none z = none_there h
  simple_after text (RawStatement-F.While l a b) part h none z = none_there h
  simple_after text (RawStatement-F.Do l a b) part h none z = none_there h
  simple_after text (RawStatement-F.For l i a step b) part h none z = none_there h
  simple_after text (RawStatement-F.Switch l a arms) part h none z = none_there h
  simple_after text (RawStatement-F.Block l b) part h none z = none_there h

  -- a call with which a for begins, outside of its block
  call_begins : {scope next : Scope} (place : Stand) (l : ℕ) (to less : RawTarget) (f : Bytes) (args : List RawArg) → StoresLess (heads_of k) f to less → ArgsFit k f args (numbered scope).statements
      → NamesStay k scope (Calls InBlock less f (kept_args k f (numbered scope).statements args)) → ScopesAgree k raw other defined_here defined_there owner_here owner_there (numbered scope) next
      → AreCounterparts k raw other (phrase l next (Calls place less f (kept_args k f (numbered scope).statements args)) ∷ []) (phrase l (opened (numbered scope)) (Calls InFor to f args) ∷ [])
  call_begins {scope} {next} place l to less f args stores fits stay h =
      one_stands k raw other l l (opened (numbered scope)) next (Calls InFor to f args) (Calls place less f (kept_args k f (numbered scope).statements args))
      (PartsAgree.calls (from_for place) stores (args_fit k f args (numbered scope).statements fits)) (places_beside k raw other texts h (calls_anywhere place (at_number stay)) (λ x n. elim n [ ]) (λ x n. elim n [ ]))

  -- what a for begins with, outside of its block
  simple_begins : {scope next : Scope} (place : Stand) (x : RawStatement-F RawStatement RawArm) (part : Part) → simple_part (kept_form k (numbered scope).statements x) ≡ Some part → declares x ≡ false → FormFits k raw x (numbered scope) → NamesStay k scope part
      → ScopesAgree k raw other defined_here defined_there owner_here owner_there (numbered scope) next
      → AreCounterparts k raw other ((scoped_step other (opened_form other (kept_form k (numbered scope).statements x))).gives next place) ((scoped_step raw (opened_form raw x)).gives (opened (numbered scope)) InFor)
  simple_begins {scope} {next} place (RawStatement-F.Assign l left op right) part h none fits stay f =
      one_stands k raw other l l (opened (numbered scope)) next (Assigns left op right) (Assigns left op right) (PartsAgree.same refl)
      (places_beside k raw other texts f (at_number (subst (NamesStay k scope) (sym (some_same h)) stay)) (λ x n. elim n [ ]) (λ x n. elim n [ ]))
  simple_begins {scope} {next} place (RawStatement-F.Bump l left up before) part h none fits stay f =
      one_stands k raw other l l (opened (numbered scope)) next (Bumps left) (Bumps left) (PartsAgree.same refl)
      (places_beside k raw other texts f (at_number (subst (NamesStay k scope) (sym (some_same h)) stay)) (λ x n. elim n [ ]) (λ x n. elim n [ ]))
  simple_begins {scope} {next} place (RawStatement-F.Call l target.None g args) part h none fits stay f =
      call_begins place l target.None target.None g args (kept tt) fits.1 (subst (NamesStay k scope) (sym (some_same h)) stay) f
  simple_begins {scope} {next} place (RawStatement-F.Call l (target.Place b) g args) part h none fits stay f =
      call_begins place l (target.Place b) (target.Place b) g args (kept fits.0.gives) fits.1 (subst (NamesStay k scope) (sym (some_same h)) stay) f
  simple_begins {scope} {next} place (RawStatement-F.Heap l target.None cast m) part h none fits stay f =
      one_stands k raw other l l (opened (numbered scope)) next (Allocates target.None cast m) (Allocates target.None cast m) (PartsAgree.same refl)
      (places_beside k raw other texts f (at_number (subst (NamesStay k scope) (sym (some_same h)) stay)) (λ x n. elim n [ ]) (λ x n. elim n [ ]))
  simple_begins {scope} {next} place (RawStatement-F.Heap l (target.Place b) cast m) part h none fits stay f =
      one_stands k raw other l l (opened (numbered scope)) next (Allocates (target.Place b) cast m) (Allocates (target.Place b) cast m) (PartsAgree.same refl)
      (places_beside k raw other texts f (at_number (subst (NamesStay k scope) (sym (some_same h)) stay)) (λ x n. elim n [ ]) (λ x n. elim n [ ]))
  simple_begins {scope} {next} place (RawStatement-F.Return l value) part h none fits stay f =
      one_stands k raw other l l (opened (numbered scope)) next (Returns value) (Returns value) (PartsAgree.returns fits)
      (places_beside k raw other texts f (at_number (subst (NamesStay k scope) (sym (some_same h)) stay)) (λ x n. elim n [ ]) (λ x n. elim n [ ]))
  simple_begins place (RawStatement-F.Declare l v i) part h none fits stay f = false_true (sym none)
  simple_begins place (RawStatement-F.Call l (target.Declared v) g args) part h none fits stay f = false_true (sym none)
  simple_begins place (RawStatement-F.Heap l (target.Declared v) cast n) part h none fits stay f = false_true (sym none)
  simple_begins place (RawStatement-F.If l a b c) part h none fits stay f = none_there h
  simple_begins place (RawStatement-F.While l a b) part h none fits stay f = none_there h
  simple_begins place (RawStatement-F.Do l a b) part h none fits stay f = none_there h
  simple_begins place (RawStatement-F.For l i a step b) part h none fits stay f = none_there h
  simple_begins place (RawStatement-F.Switch l a arms) part h none fits stay f = none_there h
  simple_begins place (RawStatement-F.Block l b) part h none fits stay f = none_there h

  -- ---- declarations

  begun_stand : {scope next : Scope} {stand place : Stand} (l : ℕ) (v : RawVar) (i : RawInit) → StandsFor stand place → NamesStay k scope (Begins InBlock v i) → ScopesAgree k raw other defined_here defined_there owner_here owner_there scope next
      → AreCounterparts k raw other (begun_phrases l next place v i) (begun_phrases l scope stand v i)
  begun_stand l v init.None st stay f = none_stand k raw other []
  begun_stand {scope} {next} {stand} {place} l v (init.One a) st stay f =
      one_stands k raw other l l scope next (Begins stand v (init.One a)) (Begins place v (init.One a)) (PartsAgree.begins st) (places_agree k raw other texts f (begins_anywhere place stay))
  begun_stand {scope} {next} {stand} {place} l v (init.Items all) st stay f =
      one_stands k raw other l l scope next (Begins stand v (init.Items all)) (Begins place v (init.Items all)) (PartsAgree.begins st) (places_agree k raw other texts f (begins_anywhere place stay))

  begun_kept : {scope next : Scope} (i : RawInit) → BeginIs k true i scope.statements → ScopesAgree k raw other defined_here defined_there owner_here owner_there scope next → ScopesAgree k raw other defined_here defined_there owner_here owner_there (begun i scope) (begun i next)
  begun_kept init.None is f = f
  begun_kept (init.One a) is f = numbered_kept k raw other is f
  begun_kept (init.Items all) is f = numbered_kept k raw other is f

  begun_gone : {scope next : Scope} (i : RawInit) → BeginIs k false i scope.statements → ScopesAgree k raw other defined_here defined_there owner_here owner_there scope next → ScopesAgree k raw other defined_here defined_there owner_here owner_there (begun i scope) next
  begun_gone init.None is f = f
  begun_gone (init.One a) is f = numbered_gone k raw other is f
  begun_gone (init.Items all) is f = numbered_gone k raw other is f

  -- a variable that stays, with its initialiser or another one
  variable_stands : {scope next : Scope} {stand place : Stand} (l : ℕ) (v w : RawVar) (i j : RawInit) → StandsFor stand place → SameVariable raw other v i w j → NamesStay k scope (Declares InBlock w j)
      → ScopesAgree k raw other defined_here defined_there owner_here owner_there scope next → AreCounterparts k raw other (phrase l next (Declares place w j) ∷ []) (phrase l scope (Declares stand v i) ∷ [])
  variable_stands {scope} {next} {stand} {place} l v w i j st like stay f =
      one_stands k raw other l l scope next (Declares stand v i) (Declares place w j) (PartsAgree.declares st like) (places_agree k raw other texts f (declares_anywhere place stay))

  variable_follows : {scope next : Scope} (v w : RawVar) (i j : RawInit) → k.variable scope.variables ≡ true → SameVariable raw other v i w j → ScopesAgree k raw other defined_here defined_there owner_here owner_there scope next
      → ScopesAgree k raw other defined_here defined_there owner_here owner_there (with_variable raw v i scope) (with_variable other w j next)
  variable_follows v w i j is like f = variable_kept k raw other v w i j is like.name like.type f

  same : (v : RawVar) (i : RawInit) → SameVariable raw other v i v i
  same v i = variable_same raw other texts.outside v i

  declaration_walks : {scope next : Scope} {stand place : Stand} (l : ℕ) (v : RawVar) (i : RawInit) → k.variable scope.variables ≡ true → BeginIs k true i scope.statements
      → NamesStay k scope (Declares InBlock v i) → NamesStay k (with_variable raw v i scope) (Begins InBlock v i) → StandsFor stand place → ScopesAgree k raw other defined_here defined_there owner_here owner_there scope next
      → Walks scope next stand place (scoped_step raw (RawStatement-F.Declare l v i)) (scoped_step other (RawStatement-F.Declare l v i) ∷ [])
  declaration_walks {scope} {next} {stand} {place} l v i is begins stay stay_begin st f =
      let g = variable_follows v v i i is (same v i) f in
      one_walks _ _ (both_stand k raw other (phrase l next (Declares place v i) ∷ []) (begun_phrases l (with_variable other v i next) place v i)
      (phrase l scope (Declares stand v i) ∷ []) (begun_phrases l (with_variable raw v i scope) stand v i)
      (variable_stands l v v i i st (same v i) stay f) (begun_stand l v i st stay_begin g))
      (begun_kept i begins g)

  bare_walks : {scope next : Scope} {stand place : Stand} (l : ℕ) (v w : RawVar) (i : RawInit) → k.variable scope.variables ≡ true → BeginIs k false i scope.statements
      → SameVariable raw other v i w init.None → NamesStay k scope (Declares InBlock w init.None) → StandsFor stand place → ScopesAgree k raw other defined_here defined_there owner_here owner_there scope next
      → Walks scope next stand place (scoped_step raw (RawStatement-F.Declare l v i)) (scoped_step other (RawStatement-F.Declare l w init.None) ∷ [])
  bare_walks {scope} {next} {stand} {place} l v w i is begins like stay st f =
      one_walks _ _ (rest_gone k raw other (phrase l next (Declares place w init.None) ∷ []) (phrase l scope (Declares stand v i) ∷ []) (begun_phrases l (with_variable raw v i scope) stand v i)
      (variable_stands l v w i init.None st like stay f))
      (begun_gone i begins (variable_follows v w i init.None is like f))

  undeclared_walks : {scope next : Scope} {stand place : Stand} (l : ℕ) (v : RawVar) (i : RawInit) → k.variable scope.variables ≡ false → BeginIs k false i scope.statements → ScopesAgree k raw other defined_here defined_there owner_here owner_there scope next
      → Walks scope next stand place (scoped_step raw (RawStatement-F.Declare l v i)) []
  undeclared_walks l v i is begins f = gone_walks _ (begun_gone i begins (variable_gone k raw other v i is f))

  -- ---- declarations with a call or an allocation

  module _ {scope next : Scope} {stand place : Stand} (l : ℕ) (v : RawVar) (st : StandsFor stand place) (f : ScopesAgree k raw other defined_here defined_there owner_here owner_there scope next) where
    abbrev inside : Scope
    inside = with_variable raw v init.None scope

    abbrev beside : Scope
    beside = with_variable other v init.None next

    bare_stands : NamesStay k scope (Declares InBlock v init.None) → AreCounterparts k raw other (phrase l next (Declares place v init.None) ∷ []) (phrase l scope (Declares stand v init.None) ∷ [])
    bare_stands stay = variable_stands l v v init.None init.None st (same v init.None) stay f

    inside_follows : k.variable scope.variables ≡ true → ScopesAgree k raw other defined_here defined_there owner_here owner_there inside beside
    inside_follows is = variable_follows v v init.None init.None is (same v init.None) f

    module _ (g : Bytes) (args : List RawArg) where
      abbrev call_form : RawStatement-F Statements (Scoped ArmText)
      call_form = RawStatement-F.Call l (target.Declared v) g args

      -- the arguments that it keeps
      abbrev some : List RawArg
      some = kept_args k g scope.statements args

      call_walks : ResultStays k g scope.statements → ArgsFit k g args scope.statements → k.variable scope.variables ≡ true → k.statement scope.statements ≡ true → NamesStay k scope (Declares InBlock v init.None)
          → NamesStay k inside (Calls InBlock (target.Declared v) g some) → Walks scope next stand place (scoped_step raw call_form) (scoped_step other (RawStatement-F.Call l (target.Declared v) g some) ∷ [])
      call_walks result fits is kept_too stay stay_call =
          one_walks _ _ (both_stand k raw other (phrase l next (Declares place v init.None) ∷ []) (phrase l beside (Calls place (target.Declared v) g some) ∷ [])
          (phrase l scope (Declares stand v init.None) ∷ []) (phrase l inside (Calls stand (target.Declared v) g args) ∷ [])
          (bare_stands stay) (call_stands l (target.Declared v) (target.Declared v) g args scope.statements st (kept result.gives) fits stay_call (inside_follows is)))
          (numbered_kept k raw other kept_too (inside_follows is))

      follows_walks : k.variable scope.variables ≡ true → k.statement scope.statements ≡ true → ArgsFit k g args scope.statements → NamesStay k scope (Declares InBlock v init.None)
          → NamesStay k inside (Calls InBlock target.None g some)
          → Walks scope next stand place (scoped_step raw call_form) (scoped_step other (RawStatement-F.Declare l v init.None) ∷ (scoped_step other (RawStatement-F.Call l target.None g some) ∷ []))
      follows_walks is kept_too fits stay stay_call = record {
        phrases = both_stand k raw other (phrase l next (Declares place v init.None) ∷ []) (phrase l beside (Calls place target.None g some) ∷ [])
            (phrase l scope (Declares stand v init.None) ∷ []) (phrase l inside (Calls stand (target.Declared v) g args) ∷ [])
            (bare_stands stay) (call_stands l (target.Declared v) target.None g args scope.statements st lost fits stay_call (inside_follows is));
        after = numbered_kept k raw other kept_too (inside_follows is);
      }

      alone_walks : k.variable scope.variables ≡ false → k.statement scope.statements ≡ true → ArgsFit k g args scope.statements → NamesStay k inside (Calls InBlock target.None g some)
          → Walks scope next stand place (scoped_step raw call_form) (scoped_step other (RawStatement-F.Call l target.None g some) ∷ [])
      alone_walks is kept_too fits stay_call =
          let h = variable_gone k raw other v init.None is f in
          one_walks _ _ (front_gone k raw other (phrase l next (Calls place target.None g some) ∷ []) (phrase l scope (Declares stand v init.None) ∷ []) (phrase l inside (Calls stand (target.Declared v) g args) ∷ [])
          (call_stands l (target.Declared v) target.None g args scope.statements st lost fits stay_call h))
          (numbered_kept k raw other kept_too h)

      call_goes_walks : k.variable scope.variables ≡ true → k.statement scope.statements ≡ false → NamesStay k scope (Declares InBlock v init.None)
          → Walks scope next stand place (scoped_step raw call_form) (scoped_step other (RawStatement-F.Declare l v init.None) ∷ [])
      call_goes_walks is gone stay =
          one_walks _ _ (rest_gone k raw other (phrase l next (Declares place v init.None) ∷ []) (phrase l scope (Declares stand v init.None) ∷ []) (phrase l inside (Calls stand (target.Declared v) g args) ∷ [])
          (bare_stands stay))
          (numbered_gone k raw other gone (inside_follows is))

      called_goes_walks : k.variable scope.variables ≡ false → k.statement scope.statements ≡ false → Walks scope next stand place (scoped_step raw call_form) []
      called_goes_walks is gone = gone_walks _ (numbered_gone k raw other gone (variable_gone k raw other v init.None is f))

    module _ (cast : Option RawTypeName) (n : RawAmount) where
      abbrev heap_form : RawStatement-F Statements (Scoped ArmText)
      heap_form = RawStatement-F.Heap l (target.Declared v) cast n

      heap_walks : k.variable scope.variables ≡ true → k.statement scope.statements ≡ true → NamesStay k scope (Declares InBlock v init.None)
          → NamesStay k inside (Allocates (target.Declared v) cast n) → Walks scope next stand place (scoped_step raw heap_form) (scoped_step other heap_form ∷ [])
      heap_walks is kept_too stay stay_heap =
          one_walks _ _ (both_stand k raw other (phrase l next (Declares place v init.None) ∷ []) (phrase l beside (Allocates (target.Declared v) cast n) ∷ [])
          (phrase l scope (Declares stand v init.None) ∷ []) (phrase l inside (Allocates (target.Declared v) cast n) ∷ [])
          (bare_stands stay) (same_stands l (Allocates (target.Declared v) cast n) refl stay_heap (inside_follows is)))
          (numbered_kept k raw other kept_too (inside_follows is))

      heap_goes_walks : k.variable scope.variables ≡ true → k.statement scope.statements ≡ false → NamesStay k scope (Declares InBlock v init.None)
          → Walks scope next stand place (scoped_step raw heap_form) (scoped_step other (RawStatement-F.Declare l v init.None) ∷ [])
      heap_goes_walks is gone stay =
          one_walks _ _ (rest_gone k raw other (phrase l next (Declares place v init.None) ∷ []) (phrase l scope (Declares stand v init.None) ∷ []) (phrase l inside (Allocates (target.Declared v) cast n) ∷ [])
          (bare_stands stay))
          (numbered_gone k raw other gone (inside_follows is))

      heaped_goes_walks : k.variable scope.variables ≡ false → k.statement scope.statements ≡ false → Walks scope next stand place (scoped_step raw heap_form) []
      heaped_goes_walks is gone = gone_walks _ (numbered_gone k raw other gone (variable_gone k raw other v init.None is f))

  -- ---- statements with parts

  -- the test of a statement, and its part
  test_stands : {scope next : Scope} (l : ℕ) (a : RawExpr) → NamesStay k scope (Tests a) → ScopesAgree k raw other defined_here defined_there owner_here owner_there scope next → AreCounterparts k raw other (phrase l next (Tests a) ∷ []) (phrase l scope (Tests a) ∷ [])
  test_stands l a stay f = same_stands l (Tests a) refl stay f

  module _ {scope next : Scope} {stand place : Stand} (l : ℕ) (a : RawExpr) (f : ScopesAgree k raw other defined_here defined_there owner_here owner_there scope next) where
    if_walks : (first second some others : List Statements) → k.statement scope.statements ≡ true → NamesStay k scope (Tests a)
        → AllWalk (opened (numbered scope)) (opened (numbered next)) InBlock InBlock first some
        → AllWalk (opened (after_block first (numbered scope))) (opened (after_block some (numbered next))) InBlock InBlock second others
        → Walks scope next stand place (scoped_step raw (RawStatement-F.If l a first second)) (scoped_step other (RawStatement-F.If l a some others) ∷ [])
    if_walks first second some others is stay w v =
        one_walks _ _ (both_stand k raw other (phrase l next (Tests a) ∷ []) _ (phrase l scope (Tests a) ∷ []) _ (test_stands l a stay f) (both_stand k raw other _ _ _ _ w.phrases v.phrases))
        (follows_closed k raw other (follows_closed k raw other (numbered_kept k raw other is f) w.after) v.after)

    while_walks : (body some : List Statements) → k.statement scope.statements ≡ true → NamesStay k scope (Tests a) → AllWalk (opened (numbered scope)) (opened (numbered next)) InBlock InBlock body some
        → Walks scope next stand place (scoped_step raw (RawStatement-F.While l a body)) (scoped_step other (RawStatement-F.While l a some) ∷ [])
    while_walks body some is stay w =
        one_walks _ _ (both_stand k raw other (phrase l next (Tests a) ∷ []) _ (phrase l scope (Tests a) ∷ []) _ (test_stands l a stay f) w.phrases)
        (follows_closed k raw other (numbered_kept k raw other is f) w.after)

    do_walks : (body some : List Statements) → k.statement scope.statements ≡ true → NamesStay k scope (Tests a) → AllWalk (opened (numbered scope)) (opened (numbered next)) InBlock InBlock body some
        → Walks scope next stand place (scoped_step raw (RawStatement-F.Do l a body)) (scoped_step other (RawStatement-F.Do l a some) ∷ [])
    do_walks body some is stay w =
        one_walks _ _ (both_stand k raw other (phrase l next (Tests a) ∷ []) _ (phrase l scope (Tests a) ∷ []) _ (test_stands l a stay f) w.phrases)
        (follows_closed k raw other (numbered_kept k raw other is f) w.after)

    for_walks : (first step begin after : Option Statements) (body some : List Statements) → NamesStay k (scope_of_test first scope) (Tests a)
        → PartWalks (opened (numbered scope)) (opened (numbered next)) InFor InFor first begin
        → PartWalks (scope_of_test first scope) (scope_of_test begin next) InBlock InBlock step after
        → AllWalk (opened (scope_of_body first step scope)) (opened (scope_of_body begin after next)) InBlock InBlock body some
        → Walks scope next stand place (scoped_step raw (RawStatement-F.For l first a step body)) (scoped_step other (RawStatement-F.For l begin a after some) ∷ [])
    for_walks first step begin after body some stay p q w =
        one_walks _ _ (both_stand k raw other _ _ _ _ p.phrases
        (both_stand k raw other (phrase l (scope_of_test begin next) (Tests a) ∷ []) _ (phrase l (scope_of_test first scope) (Tests a) ∷ []) _ (test_stands l a stay p.after)
        (both_stand k raw other _ _ _ _ q.phrases w.phrases)))
        (follows_closed k raw other f (follows_closed k raw other q.after w.after))

    switch_walks : (arms others : List (Scoped ArmText)) → k.statement scope.statements ≡ true → NamesStay k scope (Switches a (labels_of (in_order arms (opened (numbered scope)))))
        → ArmsWalk (opened (numbered scope)) (opened (numbered next)) arms others
        → Walks scope next stand place (scoped_step raw (RawStatement-F.Switch l a arms)) (scoped_step other (RawStatement-F.Switch l a others) ∷ [])
    switch_walks arms others is stay w =
        one_walks _ _ (both_stand k raw other (phrase l next (Switches a (labels_of (in_order others (opened (numbered next))))) ∷ []) _ (phrase l scope (Switches a (labels_of (in_order arms (opened (numbered scope))))) ∷ []) _
        (subst (λ (labels : List RawLabel). AreCounterparts k raw other (phrase l next (Switches a labels) ∷ []) (phrase l scope (Switches a (labels_of (in_order arms (opened (numbered scope))))) ∷ [])) (sym w.labels)
        (same_stands l (Switches a (labels_of (in_order arms (opened (numbered scope))))) refl stay f))
        w.phrases)
        (follows_closed k raw other (numbered_kept k raw other is f) w.after)

  block_walks : {scope next : Scope} {stand place : Stand} (l : ℕ) (body some : List Statements) → ScopesAgree k raw other defined_here defined_there owner_here owner_there scope next → AllWalk (opened scope) (opened next) InBlock InBlock body some
      → Walks scope next stand place (scoped_step raw (RawStatement-F.Block l body)) (scoped_step other (RawStatement-F.Block l some) ∷ [])
  block_walks l body some f w = one_walks _ _ w.phrases (follows_closed k raw other f w.after)

  -- what a for begins with, in a block of its own
  begin_walks : {scope next : Scope} {stand place : Stand} (l m : ℕ) (a : RawExpr) (first begin : Statements) (step : Option Statements) (body : List Statements) → ScopesAgree k raw other defined_here defined_there owner_here owner_there scope next
      → Walks (opened (numbered scope)) (opened next) InFor InBlock first (begin ∷ [])
      → ScopesAgree k raw other defined_here defined_there owner_here owner_there (after_block body (scope_of_body (Some first) step scope)) (begin.after (opened next))
      → Walks scope next stand place (scoped_step raw (RawStatement-F.For l (Some first) a step body)) (scoped_step other (RawStatement-F.Block m (begin ∷ [])) ∷ [])
  begin_walks l m a first begin step body f w g = one_walks _ _ (rest_gone k raw other _ _ _ w.phrases) (follows_closed k raw other f g)

  -- ---- statements as folds

  pub scoped-roll : (text : RawProgram) (x : RawStatement-F RawStatement RawArm) → scoped text (roll-RawStatement x) ≡ scoped_step text (opened_form text x)
  scoped-roll text x = fold-roll-RawStatement Statements (Scoped ArmText) (scoped_step text) scoped_arm x

  restated : {scope next : Scope} {stand place : Stand} {x y : Statements} {xs ys : List Statements} → x ≡ y → xs ≡ ys → Walks scope next stand place x xs → Walks scope next stand place y ys
  restated {scope} {next} {stand} {place} {x} {y} {xs} {ys} p q w = subst (Walks scope next stand place y) q (subst (λ (z : Statements). Walks scope next stand place z xs) p w)

  -- ---- lists

  pub joined-append : (place : Stand) (xs ys : List Statements) (next : Scope) → joined_at place (in_order (xs ++ ys) next) ≡ joined_at place (in_order xs next) ++ joined_at place (in_order ys (after_all xs next))
  joined-append place [] ys next = refl
  joined-append place (x ∷ xs) ys next =
      ap (λ (ps : Phrases). x.gives next place ++ ps) (joined-append place xs ys (x.after next))
      ∙ sym (append_assoc (x.gives next place) (joined_at place (in_order xs (x.after next))) (joined_at place (in_order ys (after_all xs (x.after next)))))

  after-append : (xs ys : List Statements) (next : Scope) → after_all (xs ++ ys) next ≡ after_all ys (after_all xs next)
  after-append [] ys next = refl
  after-append (x ∷ xs) ys next = after-append xs ys (x.after next)

  pub scoped-append : (xs ys : List RawStatement) → map (scoped other) (xs ++ ys) ≡ map (scoped other) xs ++ map (scoped other) ys
  scoped-append [] ys = refl
  scoped-append (x ∷ xs) ys = ap (λ (all : List Statements). scoped other x ∷ all) (scoped-append xs ys)

  -- a statement, and what follows it
  then_walk : (scope next : Scope) (stand place : Stand) (x : Statements) (rest : List Statements) (some others : List RawStatement) → Walks scope next stand place x (map (scoped other) some)
      → AllWalk (x.after scope) (after_all (map (scoped other) some) next) stand place rest (map (scoped other) others)
      → AllWalk scope next stand place (x ∷ rest) (map (scoped other) (some ++ others))
  then_walk scope next stand place x rest some others w v =
      subst (AllWalk scope next stand place (x ∷ rest)) (sym (scoped-append some others)) (record {
        phrases = subst (λ (qs : Phrases). AreCounterparts k raw other qs (x.gives scope stand ++ joined_at stand (in_order rest (x.after scope))))
            (sym (joined-append place (map (scoped other) some) (map (scoped other) others) next)) (both_stand k raw other _ _ _ _ w.phrases v.phrases);
        after = subst (λ (z : Scope). ScopesAgree k raw other defined_here defined_there owner_here owner_there (after_all rest (x.after scope)) z) (sym (after-append (map (scoped other) some) (map (scoped other) others) next)) v.after;
      })

  whole_part : {scope next : Scope} {stand place : Stand} {x y : Statements} → Walks scope next stand place x (y ∷ []) → PartWalks scope next stand place (Some x) (Some y)
  whole_part {scope} {next} {stand} {place} {x} {y} w = record {
    phrases = subst (λ (qs : Phrases). AreCounterparts k raw other qs (x.gives scope stand)) (append-nil (y.gives next place)) w.phrases;
    after = w.after;
  }

  -- an arm, and those that follow it
  then_arm : {scope next : Scope} (labels : List RawLabel) (body some : List RawStatement) (rest others : List (Scoped ArmText)) → AllWalk scope next InArm InArm (map (scoped raw) body) (map (scoped other) some)
      → ArmsWalk (after_all (map (scoped raw) body) scope) (after_all (map (scoped other) some) next) rest others
      → ArmsWalk scope next (scoped_of_arm raw (arm labels body) ∷ rest) (scoped_of_arm other (arm labels some) ∷ others)
  then_arm {scope} {next} labels body some rest others w v =
      subst (λ (y : Scoped ArmText). ArmsWalk scope next (scoped_of_arm raw (arm labels body) ∷ rest) (y ∷ others)) (sym (scoped_of_arm-arm other labels some))
      (subst (λ (y : Scoped ArmText). ArmsWalk scope next (y ∷ rest) (scoped_arm (record { labels = labels; body = map (scoped other) some }) ∷ others)) (sym (scoped_of_arm-arm raw labels body)) (record {
        labels = ap (λ (all : List RawLabel). labels ++ all) v.labels;
        phrases = both_stand k raw other _ _ _ _ w.phrases v.phrases;
        after = v.after;
      }))

  -- ---- the walk

  mutual
    pub walks : {scope : Scope} {x : RawStatement} {xs : List RawStatement} → Thins k raw other scope x xs → (next : Scope) (stand place : Stand) → StandsFor stand place → ScopesAgree k raw other defined_here defined_there owner_here owner_there scope next
        → Walks scope next stand place (scoped raw x) (map (scoped other) xs)
    walks {scope} (Thins.simple x part is none kept_too whole stay) next stand place st f =
        subst (λ (y : Statements). Walks scope next stand place y (scoped other (roll-RawStatement (kept_form k scope.statements x)) ∷ [])) (sym (scoped-roll raw x))
        (subst (λ (y : Statements). Walks scope next stand place (scoped_step raw (opened_form raw x)) (y ∷ [])) (sym (scoped-roll other (kept_form k scope.statements x))) (simple_walks x part is none kept_too whole stay st f))
    walks {scope} (Thins.simple_goes x part is none gone) next stand place st f =
        subst (λ (y : Statements). Walks scope next stand place y []) (sym (scoped-roll raw x)) (simple_goes_walks x part is none gone f)
    walks {scope} (Thins.result_goes {l} {a} {f = g} {args} strange less kept_too fits stay) next stand place st f =
        restated (sym (scoped-Call raw l (target.Place a) g args)) (one_same (sym (scoped-Call other l target.None g (kept_args k g scope.statements args))))
        (one_walks _ _ (call_stands l (target.Place a) target.None g args scope.statements st lost fits stay f) (numbered_kept k raw other kept_too f))
    walks (Thins.declaration {l} {v} {i} is begins_too stay stay_begin) next stand place st f =
        restated (sym (scoped-Declare raw l v i)) (one_same (sym (scoped-Declare other l v i))) (declaration_walks l v i is begins_too stay stay_begin st f)
    walks (Thins.initialiser_goes {l} {v} {w} {i} is gone like stay) next stand place st f =
        restated (sym (scoped-Declare raw l v i)) (one_same (sym (scoped-Declare other l w init.None))) (bare_walks l v w i is gone like stay st f)
    walks (Thins.declaration_goes {l} {v} {i} is gone) next stand place st f =
        restated (sym (scoped-Declare raw l v i)) refl (undeclared_walks l v i is gone f)
    walks {scope} (Thins.call {l} {v} {f = g} {args} whole fits is kept_too stay stay_call) next stand place st f =
        restated (sym (scoped-Call raw l (target.Declared v) g args)) (one_same (sym (scoped-Call other l (target.Declared v) g (kept_args k g scope.statements args)))) (call_walks l v st f g args whole fits is kept_too stay stay_call)
    walks {scope} (Thins.call_follows {l} {v} {f = g} {args} strange less is kept_too fits stay stay_call) next stand place st f =
        restated (sym (scoped-Call raw l (target.Declared v) g args)) (two_same (sym (scoped-Declare other l v init.None)) (sym (scoped-Call other l target.None g (kept_args k g scope.statements args))))
        (follows_walks l v st f g args is kept_too fits stay stay_call)
    walks {scope} (Thins.call_alone {l} {v} {f = g} {args} strange less is kept_too fits stay_call) next stand place st f =
        restated (sym (scoped-Call raw l (target.Declared v) g args)) (one_same (sym (scoped-Call other l target.None g (kept_args k g scope.statements args)))) (alone_walks l v st f g args is kept_too fits stay_call)
    walks (Thins.call_goes {l} {v} {f = g} {args} gives is gone stay) next stand place st f =
        restated (sym (scoped-Call raw l (target.Declared v) g args)) (one_same (sym (scoped-Declare other l v init.None))) (call_goes_walks l v st f g args is gone stay)
    walks (Thins.called_goes {l} {v} {f = g} {args} is gone) next stand place st f =
        restated (sym (scoped-Call raw l (target.Declared v) g args)) refl (called_goes_walks l v st f g args is gone)
    walks (Thins.heap {l} {v} {cast} {n} is kept_too stay stay_heap) next stand place st f =
        restated (sym (scoped-Heap raw l (target.Declared v) cast n)) (one_same (sym (scoped-Heap other l (target.Declared v) cast n))) (heap_walks l v st f cast n is kept_too stay stay_heap)
    walks (Thins.heap_goes {l} {v} {cast} {n} is gone stay) next stand place st f =
        restated (sym (scoped-Heap raw l (target.Declared v) cast n)) (one_same (sym (scoped-Declare other l v init.None))) (heap_goes_walks l v st f cast n is gone stay)
    walks (Thins.heaped_goes {l} {v} {cast} {n} is gone) next stand place st f =
        restated (sym (scoped-Heap raw l (target.Declared v) cast n)) refl (heaped_goes_walks l v st f cast n is gone)
    walks (Thins.conditional {l} {a} {first} {second} {some} {others} is stay d e) next stand place st f =
        let n = numbered_kept k raw other is f in
        let w = all_walk d (opened (numbered next)) InBlock InBlock there (follows_opened k raw other n) in
        let v = all_walk e (opened (after_block (map (scoped other) some) (numbered next))) InBlock InBlock there (follows_opened k raw other (follows_closed k raw other n w.after)) in
        restated (sym (scoped-If raw l a first second)) (one_same (sym (scoped-If other l a some others)))
        (if_walks l a f (map (scoped raw) first) (map (scoped raw) second) (map (scoped other) some) (map (scoped other) others) is stay w v)
    walks (Thins.conditional_goes {l} {a} {first} {second} is d e) next stand place st f =
        let n = numbered_gone k raw other is f in
        let w = all_walk d (opened next) InBlock InBlock there (follows_opened k raw other n) in
        let b = follows_gone k raw other n w.after in
        let v = all_walk e (opened next) InBlock InBlock there (follows_opened k raw other b) in
        restated (sym (scoped-If raw l a first second)) refl (gone_walks _ (follows_gone k raw other b v.after))
    walks (Thins.while_loop {l} {a} {body} {some} is stay d) next stand place st f =
        let w = all_walk d (opened (numbered next)) InBlock InBlock there (follows_opened k raw other (numbered_kept k raw other is f)) in
        restated (sym (scoped-While raw l a body)) (one_same (sym (scoped-While other l a some))) (while_walks l a f (map (scoped raw) body) (map (scoped other) some) is stay w)
    walks (Thins.while_goes {l} {a} {body} is d) next stand place st f =
        let n = numbered_gone k raw other is f in
        let w = all_walk d (opened next) InBlock InBlock there (follows_opened k raw other n) in
        restated (sym (scoped-While raw l a body)) refl (gone_walks _ (follows_gone k raw other n w.after))
    walks (Thins.do_loop {l} {a} {body} {some} is stay d) next stand place st f =
        let w = all_walk d (opened (numbered next)) InBlock InBlock there (follows_opened k raw other (numbered_kept k raw other is f)) in
        restated (sym (scoped-Do raw l a body)) (one_same (sym (scoped-Do other l a some))) (do_walks l a f (map (scoped raw) body) (map (scoped other) some) is stay w)
    walks (Thins.do_goes {l} {a} {body} is d) next stand place st f =
        let n = numbered_gone k raw other is f in
        let w = all_walk d (opened next) InBlock InBlock there (follows_opened k raw other n) in
        restated (sym (scoped-Do raw l a body)) refl (gone_walks _ (follows_gone k raw other n w.after))
    walks (Thins.for_loop {l} {a} {first} {step} {begin} {next = after} {body} {some} is stay d e h) next stand place st f =
        let p = part_walks d (opened (numbered next)) InFor InFor there (follows_opened k raw other (numbered_kept k raw other is f)) in
        let q = part_walks e (scope_of_test (option_map (scoped other) begin) next) InBlock InBlock there p.after in
        let w = all_walk h (opened (scope_of_body (option_map (scoped other) begin) (option_map (scoped other) after) next)) InBlock InBlock there (follows_opened k raw other q.after) in
        restated (sym (scoped-For raw l first a step body)) (one_same (sym (scoped-For other l begin a after some)))
        (for_walks l a f (option_map (scoped raw) first) (option_map (scoped raw) step) (option_map (scoped other) begin) (option_map (scoped other) after) (map (scoped raw) body) (map (scoped other) some) stay p q w)
    walks (Thins.for_goes {l} {a} {first} {step} {body} is d e h) next stand place st f =
        let p = part_walks d (opened next) InFor InFor there (follows_opened k raw other (numbered_gone k raw other is f)) in
        let q = part_walks e (opened next) InBlock InBlock there p.after in
        let w = all_walk h (opened (opened next)) InBlock InBlock there (follows_opened k raw other q.after) in
        restated (sym (scoped-For raw l first a step body)) refl (gone_walks _ (follows_gone k raw other f (follows_gone k raw other q.after w.after)))
    walks (Thins.for_block {l} {a} {first} {begin} {step} {body} is declaring gives d e h) next stand place st f =
        let p = walks d (opened next) InFor InBlock out_of_for (follows_opened k raw other (numbered_gone k raw other is f)) in
        let q = part_walks e ((scoped other begin).after (opened next)) InBlock InBlock there p.after in
        let w = all_walk h (opened ((scoped other begin).after (opened next))) InBlock InBlock there (follows_opened k raw other q.after) in
        restated (sym (scoped-For raw l (Some first) a step body)) (one_same (sym (scoped-Block other l (begin ∷ []))))
        (begin_walks l l a (scoped raw first) (scoped other begin) (option_map (scoped raw) step) (map (scoped raw) body) f p (follows_gone k raw other q.after w.after))
    walks (Thins.switch {l} {a} {arms} {others} is stay d) next stand place st f =
        let w = arms_walk d (opened (numbered next)) (follows_opened k raw other (numbered_kept k raw other is f)) in
        restated (sym (scoped-Switch raw l a arms)) (one_same (sym (scoped-Switch other l a others)))
        (switch_walks l a f (map (scoped_of_arm raw) arms) (map (scoped_of_arm other) others) is stay w)
    walks (Thins.switch_goes {l} {a} {arms} is d) next stand place st f =
        let n = numbered_gone k raw other is f in
        restated (sym (scoped-Switch raw l a arms)) refl (gone_walks _ (follows_gone k raw other n (arms_gone d (opened next) (follows_opened k raw other n))))
    walks (Thins.block {l} {body} {rest} {x} d) next stand place st f =
        restated (sym (scoped-Block raw l body)) (one_same (sym (scoped-Block other l (x ∷ rest))))
        (block_walks l (map (scoped raw) body) (map (scoped other) (x ∷ rest)) f (all_walk d (opened next) InBlock InBlock there (follows_opened k raw other f)))
    walks {scope} (Thins.for_simple {l} {a} x part {step} {body} is simple none kept_too whole stay e h) next stand place st f =
        let n = numbered_gone k raw other is f in
        let form = kept_form k (numbered scope).statements x in
        let plain = form_part k (numbered scope).statements x part simple in
        let nothing : declares form ≡ false = form_declares k (numbered scope).statements x ∙ none in
        let g = subst (λ (z : Scope). ScopesAgree k raw other defined_here defined_there owner_here owner_there z (numbered (opened next))) (sym (ap (λ (y : Statements). y.after (opened (numbered scope))) (scoped-roll raw x) ∙ simple_after raw x plain.0 plain.1 none (opened (numbered scope))))
        (numbered_kept k raw other kept_too (follows_opened k raw other n)) in
        let q = part_walks e (numbered (opened next)) InBlock InBlock there g in
        let w = all_walk h (opened (numbered (opened next))) InBlock InBlock there (follows_opened k raw other q.after) in
        restated (sym (scoped-For raw l (Some (roll-RawStatement x)) a step body)) (one_same (sym (scoped-roll other form)))
        (one_walks _ _ (rest_gone k raw other _ _ _ (subst (λ (y : Statements). AreCounterparts k raw other ((scoped_step other (opened_form other form)).gives next place) (y.gives (opened (numbered scope)) InFor)) (sym (scoped-roll raw x))
        (simple_begins place x part simple none whole stay n)))
        (subst (λ (z : Scope). ScopesAgree k raw other defined_here defined_there owner_here owner_there (closed scope (after_block (map (scoped raw) body) (scope_of_body (Some (scoped raw (roll-RawStatement x))) (option_map (scoped raw) step) scope))) z) (sym (simple_after other form part simple nothing next)) (follows_numbered k raw other f (follows_gone k raw other q.after w.after))))
    walks {scope} (Thins.for_result_goes {l} {m} {a} b {f = g} args {step} {body} is strange less kept_too fits stay e h) next stand place st f =
        let n = numbered_gone k raw other is f in
        let first = scoped-Call raw m (target.Place b) g args in
        let later = subst (λ (z : Scope). ScopesAgree k raw other defined_here defined_there owner_here owner_there z (numbered (opened next))) (sym (ap (λ (y : Statements). y.after (opened (numbered scope))) first))
        (numbered_kept k raw other kept_too (follows_opened k raw other n)) in
        let q = part_walks e (numbered (opened next)) InBlock InBlock there later in
        let w = all_walk h (opened (numbered (opened next))) InBlock InBlock there (follows_opened k raw other q.after) in
        let some = kept_args k g (numbered scope).statements args in
        let alone = phrase m next (Calls place target.None g some) ∷ [] in
        restated (sym (scoped-For raw l (Some (s.Call m (target.Place b) g args)) a step body)) (one_same (sym (scoped-Call other m target.None g some)))
        (one_walks _ _ (rest_gone k raw other alone _ _ (subst (λ (y : Statements). AreCounterparts k raw other alone (y.gives (opened (numbered scope)) InFor)) (sym first)
        (call_begins place m (target.Place b) target.None g args lost fits stay n))) (follows_numbered k raw other f (follows_gone k raw other q.after w.after)))
    walks (Thins.block_goes {l} {body} d) next stand place st f =
        let w = all_walk d (opened next) InBlock InBlock there (follows_opened k raw other f) in
        restated (sym (scoped-Block raw l body)) refl (gone_walks _ (follows_gone k raw other f w.after))

    pub all_walk : {scope : Scope} {xs ys : List RawStatement} → ThinAll k raw other scope xs ys → (next : Scope) (stand place : Stand) → StandsFor stand place → ScopesAgree k raw other defined_here defined_there owner_here owner_there scope next
        → AllWalk scope next stand place (map (scoped raw) xs) (map (scoped other) ys)
    all_walk ThinAll.none next stand place st f = record { phrases = none_stand k raw other []; after = f }
    all_walk {scope} (ThinAll.more {x} {rest} {some} {others} d e) next stand place st f =
        let w = walks d next stand place st f in
        let v = all_walk e (after_all (map (scoped other) some) next) stand place st w.after in
        then_walk scope next stand place (scoped raw x) (map (scoped raw) rest) some others w v

    pub part_walks : {scope : Scope} {x y : Option RawStatement} → ThinsPart k raw other scope x y → (next : Scope) (stand place : Stand) → StandsFor stand place → ScopesAgree k raw other defined_here defined_there owner_here owner_there scope next
        → PartWalks scope next stand place (option_map (scoped raw) x) (option_map (scoped other) y)
    part_walks ThinsPart.missing next stand place st f = record { phrases = none_stand k raw other []; after = f }
    part_walks {scope} (ThinsPart.part_stays {x} {y} d) next stand place st f = whole_part (walks d next stand place st f)
    part_walks (ThinsPart.part_goes d) next stand place st f = let w = walks d next stand place st f in record { phrases = none_stand k raw other _; after = w.after }

    pub arms_walk : {scope : Scope} {xs ys : List RawArm} → ThinArms k raw other scope xs ys → (next : Scope) → ScopesAgree k raw other defined_here defined_there owner_here owner_there scope next → ArmsWalk scope next (map (scoped_of_arm raw) xs) (map (scoped_of_arm other) ys)
    arms_walk ThinArms.no_arms next f = record { labels = refl; phrases = none_stand k raw other []; after = f }
    arms_walk (ThinArms.arm_stays {labels} {body} {some} {rest} {others} stay d e) next f =
        let w = all_walk d next InArm InArm there f in
        let v = arms_walk e (after_all (map (scoped other) some) next) w.after in
        then_arm labels body some (map (scoped_of_arm raw) rest) (map (scoped_of_arm other) others) w v

    arms_gone : {scope : Scope} {xs : List RawArm} → ArmsGo k raw other scope xs → (next : Scope) → ScopesAgree k raw other defined_here defined_there owner_here owner_there scope next → ScopesAgree k raw other defined_here defined_there owner_here owner_there (after_all (map (scoped_of_arm raw) xs) scope) next
    arms_gone ArmsGo.no_arms_left next f = f
    arms_gone {scope} (ArmsGo.arm_goes {labels} {body} {rest} d e) next f =
        let w = all_walk d next InArm InArm there f in
        subst (λ (y : Scoped ArmText). ScopesAgree k raw other defined_here defined_there owner_here owner_there (after_all (map (scoped_of_arm raw) rest) (y.after scope)) next) (sym (scoped_of_arm-arm raw labels body)) (arms_gone e next w.after)

  -- ---- what a place has by itself

  pub begun_stand_as_it_is : {scope next : Scope} (l : ℕ) (stand : Stand) (v : RawVar) (i : RawInit) → NamesStay k scope (Begins stand v i) → ScopesAgree k raw other defined_here defined_there owner_here owner_there scope next
      → AreCounterparts k raw other (begun_phrases l next stand v i) (begun_phrases l scope stand v i)
  begun_stand_as_it_is l stand v init.None stay f = none_stand k raw other []
  begun_stand_as_it_is l stand v (init.One a) stay f = same_stands l (Begins stand v (init.One a)) refl stay f
  begun_stand_as_it_is l stand v (init.Items all) stay f = same_stands l (Begins stand v (init.Items all)) refl stay f
