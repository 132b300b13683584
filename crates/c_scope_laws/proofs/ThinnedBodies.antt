-- What stays of a list of statements is what stays of it, where its needs are met.
use Rattle.std.proofs.Common.{◌≡◌, ℕ, List, [], ◌∷◌, ◌++◌, map, Bool, true, false, Option, Some, None, option_map, refl, sym, ap, ap₂, subst, ◌∙◌}
use Rattle.c_tree.specs.declared.raw.expr.RawExpr.{RawExpr}
use Rattle.c_tree.specs.declared.raw.expr.RawExpr.TheVariants as e
use Rattle.std.specs.Prelude.{decimal}
use Rattle.c_language.specs.TypeGrammar.{is_written, written_step}
use Rattle.c_tree.specs.declared.raw.expr.RawLength.TheVariants.{Written, Listed}
use Rattle.c_tree.specs.declared.raw.expr.RawType.{RawType, ind-RawType, roll-RawType, map-RawType, fold-roll-RawType}
use Rattle.c_tree.specs.declared.raw.expr.RawType.TheOpen.{RawType-F}
use Rattle.c_tree.specs.declared.raw.expr.RawType.TheVariants as type
use Rattle.c_tree.specs.declared.raw.expr.RawVar.{RawVar}
use Rattle.c_tree.specs.declared.raw.program.RawInit.{RawInit}
use Rattle.c_tree.specs.declared.raw.program.RawInit.TheVariants as init
use Rattle.c_tree.specs.declared.raw.program.RawProgram.{RawProgram}
use Rattle.c_tree.specs.declared.raw.statement.RawArg.{RawArg}
use Rattle.c_tree.specs.declared.raw.statement.RawAmount.{RawAmount}
use Rattle.c_tree.specs.declared.raw.statement.RawTypeName.{RawTypeName}
use Rattle.c_tree.specs.declared.raw.statement.RawTarget.{RawTarget}
use Rattle.c_tree.specs.declared.raw.statement.RawTarget.TheVariants as target
use Rattle.c_tree.specs.declared.raw.statement.RawLabel.{RawLabel}
use Rattle.c_tree.specs.declared.raw.statement.RawStatement.{RawStatement, ind-RawStatement, roll-RawStatement, out-RawStatement, map-RawStatement, fold-roll-RawStatement}
use Rattle.c_tree.specs.declared.raw.statement.RawStatement.TheOpen.{RawStatement-F, RawArm-F}
use Rattle.c_tree.specs.declared.raw.statement.RawStatement.TheVariants as s
use Rattle.c_tree.specs.declared.raw.statement.RawArm.{RawArm, roll-RawArm, map-RawArm, fold-roll-RawArm}
use Rattle.c_language.specs.Words.{Bytes}
use Rattle.c_language.specs.DeclaredTypes.{item_count}
use Rattle.c_tree.specs.declared.raw.statement.RawStatement.TheViews.{out-roll-RawStatement}
use Rattle.c_language.specs.Rules.{Breaks, AreKept}
use Rattle.c_language.specs.CallRules.{without_result, MisusesResult}
use Rattle.c_language.specs.Scopes.{Scope, Scoped, with_variable, opened, numbered, in_order, after_all, after_block, part_gives, after_part, scope_of_test, scope_of_body}
use Rattle.c_language.specs.Phrases.{Phrases, phrase, joined_at, at_stand, InArm, InFor, phrases_of_arms, target_phrases, phrases_step, scoped_step, scoped_arm, body_phrases, Stand, InBlock, Part, Assigns, Bumps, Calls, Allocates, Returns, Switches, ArmText, scoped, scoped_of_arm, Tests}
use Rattle.c_language.specs.Uses.{is_library_function, is_among}
use Rattle.c_language.proofs.ScopedForms.{scoped_of_arm-arm}
use Rattle.c_language.proofs.Tests.{false_true}
use Rattle.c_language.proofs.ScopesAfter.{statement_after, statements_after, block_scope_after, part_scope_after}
use Rattle.c_scope_laws.specs.Agreement.{SameOutside, IsCount, CountWritten, ReturnFits, simple_part}
use Rattle.projection.specs.Kept.{Kept}
use Rattle.c_scope_laws.specs.Thinning.{heads_of, NamesStay, BeginIs, ResultStays, kept_args, ArgsFit, kept_form, FormFits, LabelsStay, GivesResult, target_declares, declares, block_after, part_scope, body_scope, after_list, arm_labels, Thins, ThinAll, ThinsPart, ThinArms, ArmsGo}
use Rattle.c_scope_laws.specs.ThinnedBodies.{Need, AreMet, Left, ArmLeft, these, strays, gone, counted_type_step, counted_type, counted_var, count_needs, only, beyond, part_left, part_needs, part_gone, alone_one, alone_all, left_alone, arms_left, arms_labels, arms_needs, arms_gone, block_of, plain, plain_with, passes, gives, return_needs, declared, call_placed, call_declared, heap_declared, if_left, while_left, do_left, for_left, switch_left, result_kept, declare_left, call_left, heap_left, block_left, left_step, left_scoped, left_arm_step, left, left_arm, body_left, part_given}
use Rattle.c_tree.specs.declared.raw.program.RawHead.{RawHead}
use Rattle.c_language.specs.CallRules.{head_around}
use Rattle.c_scope_laws.proofs.KeptForms.{form_declares, fits_before}
use Rattle.c_scope_laws.proofs.CountedLengths.{initialiser_drops}
use Rattle.c_language.specs.StatementGrammar.{arm}
use Rattle.c_language.proofs.PhraseLists.{kept_first, kept_second}

-- ---- lengths

module _ (k : Kept Bytes) (items : ℕ) where
  any_count : (b : Bool) → IsCount items (e.Constant (decimal items)) → AreMet k (count_needs b items)
  any_count true h = tt
  any_count false h = (h, tt)

  abbrev Counts : RawType → Type 0
  Counts a = AreMet k (count_needs (is_written a) items) → CountWritten items a (counted_type items a)

  at_type : {x a b : RawType} → x ≡ a → counted_type items x ≡ b → CountWritten items a b → CountWritten items x (counted_type items x)
  at_type {x} {a} {b} h q c = subst (λ (z : RawType). CountWritten items x z) (sym q) (subst (λ (z : RawType). CountWritten items z b) (sym h) c)

  type_layer : (y : RawType-F ((a : RawType) × Counts a)) → Counts (roll-RawType (map-RawType ((a : RawType) × Counts a) RawType (λ a. a.0) y))
  type_layer (RawType-F.Integer i) m = at_type (type.rolls-Integer i) (fold-roll-RawType RawType (counted_type_step items) (RawType-F.Integer i)) CountWritten.integer
  type_layer (RawType-F.PointerTo a) m =
      at_type (type.rolls-PointerTo a.0) (fold-roll-RawType RawType (counted_type_step items) (RawType-F.PointerTo a.0))
      (CountWritten.pointer (a.1 (subst (λ (b : Bool). AreMet k (count_needs b items)) (fold-roll-RawType Bool written_step (RawType-F.PointerTo a.0)) m)))
  type_layer (RawType-F.Array a (Written n)) m =
      at_type (type.rolls-Array a.0 (Written n)) (fold-roll-RawType RawType (counted_type_step items) (RawType-F.Array a.0 (Written n)))
      (CountWritten.written (a.1 (subst (λ (b : Bool). AreMet k (count_needs b items)) (fold-roll-RawType Bool written_step (RawType-F.Array a.0 (Written n))) m)))
  type_layer (RawType-F.Array a Listed) m =
      let c = subst (λ (b : Bool). AreMet k (count_needs b items)) (fold-roll-RawType Bool written_step (RawType-F.Array a.0 Listed)) m in
      at_type (type.rolls-Array a.0 Listed) (fold-roll-RawType RawType (counted_type_step items) (RawType-F.Array a.0 Listed)) (CountWritten.counted (a.1 (any_count (is_written a.0) c.0)) c.0)
  type_layer (RawType-F.Struct tag) m = at_type (type.rolls-Struct tag) (fold-roll-RawType RawType (counted_type_step items) (RawType-F.Struct tag)) CountWritten.structure

  counts : (a : RawType) → Counts a
  counts = ind-RawType Counts (λ x y is. subst (λ z. Counts (roll-RawType z)) is (type_layer y))

-- ---- needs

pub both_met : (k : Kept Bytes) (a b : List Need) → AreMet k (a ++ b) → AreMet k a × AreMet k b
both_met k [] b h = (tt, h)
both_met k (n ∷ a) b h = let r = both_met k a b h.1 in ((h.0, r.0), r.1)

pub join_met : (k : Kept Bytes) (a b : List Need) → AreMet k a → AreMet k b → AreMet k (a ++ b)
join_met k [] b h q = q
join_met k (n ∷ a) b h q = (h.0, join_met k a b h.1 q)

-- what a statement needs is met, and what stays of it is one statement or none
abbrev pub Met : Kept Bytes → Left → Type 0
Met k l = AreMet k l.needs × AreMet k (beyond l.some)

pub block_alone : (k : Kept Bytes) (l : ℕ) (ys : List RawStatement) → AreMet k (beyond (block_of l ys))
block_alone k l [] = tt
block_alone k l (y ∷ ys) = tt

pub none_strays : (k : Kept Bytes) (xs : List RawStatement) → AreMet k (strays xs) → xs ≡ []
none_strays k [] h = refl
none_strays k (x ∷ xs) h = absurd h.0

-- ---- results

keeps_result : (library result : Bool) → result_kept library result ≡ true → library ≡ false → result ≡ true
keeps_result true result h q = false_true (sym q)
keeps_result false result h q = h

loses_result : (library result : Bool) → result_kept library result ≡ false → (library ≡ false) × (result ≡ false)
loses_result true result h = false_true (sym h)
loses_result false result h = (refl, h)

-- ---- rules

-- what is declared with a call is declared with one that gives a result
result_given : (raw : RawProgram) (l : ℕ) (scope : Scope) (stand : Stand) (v : RawVar) (f : Bytes) (args : List RawArg)
    → AreKept raw (phrase l scope (Calls stand (target.Declared v) f args) ∷ []) → is_among without_result f ≡ false
result_given raw l scope stand v f args h = by_name (is_among without_result f) refl
  where
    by_name : (b : Bool) → is_among without_result f ≡ b → b ≡ false
    by_name true q =
        absurd (h.0 17 (Breaks.result (MisusesResult.library (λ e. false_true (sym (ap target_declares e))) q)))
    by_name false q = refl

-- ---- what stays gives the results that it declares

abbrev Gives : RawStatement → Type 0
Gives y = declares (out-RawStatement y) ≡ true → GivesResult (out-RawStatement y)

abbrev AllGive : List RawStatement → Type 0
AllGive [] = Unit {0}
AllGive (y ∷ ys) = Gives y × AllGive ys

gives_at : {y : RawStatement} (z : RawStatement-F RawStatement RawArm) → roll-RawStatement z ≡ y → (declares z ≡ true → GivesResult z) → Gives y
gives_at {y} z h g = subst (λ (o : RawStatement-F RawStatement RawArm). declares o ≡ true → GivesResult o) (sym (out-roll-RawStatement z) ∙ ap out-RawStatement h) g

declare_gives : (l : ℕ) (v : RawVar) (i : RawInit) → Gives (s.Declare l v i)
declare_gives l v i = gives_at (RawStatement-F.Declare l v i) (s.rolls-Declare l v i) (λ q. tt)

call_gives : (l : ℕ) (f : Bytes) (args : List RawArg) → Gives (s.Call l target.None f args)
call_gives l f args = gives_at (RawStatement-F.Call l target.None f args) (s.rolls-Call l target.None f args) (λ q. false_true q)

for_gives : (l : ℕ) (i : Option RawStatement) (a : RawExpr) (step : Option RawStatement) (b : List RawStatement) → Gives (s.For l i a step b)
for_gives l None a None b = gives_at (RawStatement-F.For l None a None b) (s.rolls-For l None a None b) (λ q. tt)
for_gives l None a (Some n) b = gives_at (RawStatement-F.For l None a (Some n) b) (s.rolls-For l None a (Some n) b) (λ q. tt)
for_gives l (Some i) a None b = gives_at (RawStatement-F.For l (Some i) a None b) (s.rolls-For l (Some i) a None b) (λ q. tt)
for_gives l (Some i) a (Some n) b = gives_at (RawStatement-F.For l (Some i) a (Some n) b) (s.rolls-For l (Some i) a (Some n) b) (λ q. tt)

block_gives : (l : ℕ) (ys : List RawStatement) → AllGive (block_of l ys)
block_gives l [] = tt
block_gives l (y ∷ ys) = (gives_at (RawStatement-F.Block l (y ∷ ys)) (s.rolls-Block l (y ∷ ys)) (λ q. tt), tt)

-- ---- the scope behind what stays

module _ (k : Kept Bytes) (raw : RawProgram) where
  pub left_after : (x : RawStatement) (scope : Scope) → (left k raw x).after scope ≡ (scoped raw x).after scope
  left_after = statement_after raw Left ArmLeft (left_step k raw) (λ a. (left_arm_step k raw a).gives)

  left_after_list : (xs : List RawStatement) (scope : Scope) → after_all (map (left k raw) xs) scope ≡ after_list raw xs scope
  left_after_list = statements_after raw Left ArmLeft (left_step k raw) (λ a. (left_arm_step k raw a).gives)

  pub left_after_block : (xs : List RawStatement) (scope : Scope) → after_block (map (left k raw) xs) scope ≡ block_after raw xs scope
  left_after_block = block_scope_after raw Left ArmLeft (left_step k raw) (λ a. (left_arm_step k raw a).gives)

  pub left_after_part : (x : Option RawStatement) (scope : Scope) → after_part (option_map (left k raw) x) scope ≡ after_part (option_map (scoped raw) x) scope
  left_after_part = part_scope_after raw Left ArmLeft (left_step k raw) (λ a. (left_arm_step k raw a).gives)

module _ (k : Kept Bytes) (raw other : RawProgram) (like : SameOutside raw other) where
  -- a statement without parts that declares nothing, which stays with the arguments that it keeps
  record IsPlain (scope : Scope) (x : RawStatement) (some : List RawStatement) : Type 0 where
    pub form : RawStatement-F RawStatement RawArm
    pub part : Part
    pub is : x ≡ roll-RawStatement form
    pub simple : simple_part (kept_form k scope.statements form) ≡ Some part
    pub quiet : declares form ≡ false
    pub kept : k.statement scope.statements ≡ true
    pub whole : FormFits k raw form scope
    pub names : NamesStay k scope part
    pub one : some ≡ roll-RawStatement (kept_form k scope.statements form) ∷ []

  -- one that stays where it began a for that goes: with the arguments that it keeps, or without its result too
  data StaysAlone (scope : Scope) : RawStatement → List RawStatement → Type 0 where
    with_result : {x : RawStatement} {some : List RawStatement} → IsPlain scope x some → StaysAlone scope x some
    without_it : {l : ℕ} {a : RawExpr} {f : Bytes} {args : List RawArg}
        → is_library_function f ≡ false → k.result scope.statements ≡ false
        → k.statement scope.statements ≡ true → ArgsFit k f args scope.statements → NamesStay k scope (Calls InBlock target.None f (kept_args k f scope.statements args))
        → StaysAlone scope (s.Call l (target.Place a) f args) (s.Call l target.None f (kept_args k f scope.statements args) ∷ [])

  record Stays (scope : Scope) (x : RawStatement) (l : Left) : Type 0 where
    pub thins : Thins k raw other scope x l.some
    pub as_plain : l.is_plain ≡ true → StaysAlone scope x l.some
    pub gives : AllGive l.some

  compound : {scope : Scope} {x : RawStatement} {some : List RawStatement} {needs : List Need} → AllGive some → Thins k raw other scope x some → Stays scope x (these some needs)
  compound g t = record { thins = t; as_plain = λ q. false_true q; gives = g }

  at_form : {x y : RawStatement} {scope : Scope} {l : Left} → x ≡ y → Stays scope y l → Stays scope x l
  at_form {scope} {l} h t = subst (λ (z : RawStatement). Stays scope z l) (sym h) t

  -- a form without arguments, and that returns nothing
  plain_stays : (y : RawStatement-F RawStatement RawArm) (part : Part) → simple_part y ≡ Some part → declares y ≡ false → (scope : Scope) → kept_form k scope.statements y ≡ y → FormFits k raw y scope
      → (b : Bool) → k.statement scope.statements ≡ b → AreMet k (plain b y scope part).needs → Stays scope (roll-RawStatement y) (plain b y scope part)
  plain_stays y part simple quiet scope same whole true h m = record {
    thins = subst (λ (z : RawStatement-F RawStatement RawArm). Thins k raw other scope (roll-RawStatement y) (roll-RawStatement z ∷ [])) same (Thins.simple y part (ap simple_part same ∙ simple) quiet h whole m.0);
    as_plain = λ q.
        with_result (record { form = y; part = part; is = refl; simple = ap simple_part same ∙ simple; quiet = quiet; kept = h; whole = whole; names = m.0; one = ap (λ (z : RawStatement-F RawStatement RawArm). roll-RawStatement z ∷ []) (sym same) });
    gives = (gives_at y refl (λ q. false_true (sym quiet ∙ q)), tt);
  }
  plain_stays y part simple quiet scope same whole false h m = compound tt (Thins.simple_goes y part simple quiet h)

  -- one that needs more
  form_stays : (y : RawStatement-F RawStatement RawArm) (before part : Part) → simple_part y ≡ Some before → declares y ≡ false → (scope : Scope) (needs : List Need)
      → simple_part (kept_form k scope.statements y) ≡ Some part → (AreMet k needs → FormFits k raw y scope)
      → (b : Bool) → k.statement scope.statements ≡ b → AreMet k (plain_with b needs (kept_form k scope.statements y) scope part).needs
      → Stays scope (roll-RawStatement y) (plain_with b needs (kept_form k scope.statements y) scope part)
  form_stays y before part simple quiet scope needs after fits true h m = record {
    thins = Thins.simple y part after quiet h (fits m.1) m.0;
    as_plain = λ q. with_result (record { form = y; part = part; is = refl; simple = after; quiet = quiet; kept = h; whole = fits m.1; names = m.0; one = refl });
    gives = (gives_at (kept_form k scope.statements y) refl (λ q. false_true (sym (form_declares k scope.statements y ∙ quiet) ∙ q)), tt);
  }
  form_stays y before part simple quiet scope needs after fits false h m = compound tt (Thins.simple_goes y before simple quiet h)

  -- ---- what calls and returns need

  args_met : (f : Bytes) (args : List RawArg) (n : ℕ) → AreMet k (passes (is_library_function f) f args n) → ArgsFit k f args n
  args_met f args n = by_library (is_library_function f) refl
    where
      by_library : (b : Bool) → is_library_function f ≡ b → AreMet k (passes b f args n) → ArgsFit k f args n
      by_library true known m strange = false_true (sym strange ∙ known)
      by_library false other m strange = m.0

  gives_met : (f : Bytes) → AreMet k (gives (is_library_function f) f) → is_library_function f ≡ false → k.gives f ≡ true
  gives_met f = by_library (is_library_function f) refl
    where
      by_library : (b : Bool) → is_library_function f ≡ b → AreMet k (gives b f) → is_library_function f ≡ false → k.gives f ≡ true
      by_library true known m strange = false_true (sym strange ∙ known)
      by_library false other m strange = m.0

  return_met : (around : Option RawHead) (a : Option RawExpr) → AreMet k (return_needs around a) → ReturnFits (heads_of k) around a
  return_met around None m = tt
  return_met None (Some a) m = tt
  return_met (Some h) (Some a) m = m.0

  declared_stays : (l : ℕ) (v : RawVar) (i : RawInit) (scope : Scope) (a b : Bool) → k.variable scope.variables ≡ a → BeginIs k b i scope.statements
      → AreMet k (declared raw a b l v i scope).needs → Stays scope (s.Declare l v i) (declared raw a b l v i scope)
  declared_stays l v i scope true true h q m = compound (declare_gives l v i, tt) (Thins.declaration h q m.0 m.1.0)
  declared_stays l v i scope true false h q m =
      compound (declare_gives l (counted_var v i) init.None, tt) (Thins.initialiser_goes h q (initialiser_drops raw other like v (counted_var v i) i refl (counts k (item_count i) v.shape m.1)) m.0)
  declared_stays l v i scope false true h q m = absurd m.0
  declared_stays l v i scope false false h q m = compound tt (Thins.declaration_goes h q)

  declare_stays : (l : ℕ) (v : RawVar) (i : RawInit) (scope : Scope) → AreMet k (declare_left k raw l v i scope).needs → Stays scope (s.Declare l v i) (declare_left k raw l v i scope)
  declare_stays l v init.None scope m = declared_stays l v init.None scope (k.variable scope.variables) (k.variable scope.variables) refl tt m
  declare_stays l v (init.One a) scope m = declared_stays l v (init.One a) scope (k.variable scope.variables) (k.statement scope.statements) refl refl m
  declare_stays l v (init.Items all) scope m = declared_stays l v (init.Items all) scope (k.variable scope.variables) (k.statement scope.statements) refl refl m

  module _ (l : ℕ) (f : Bytes) (args : List RawArg) (scope : Scope) where
    -- the arguments that the call keeps, what it needs, and what its result needs
    abbrev some : List RawArg
    some = kept_args k f scope.statements args

    abbrev call_needs : List Need
    call_needs = passes (is_library_function f) f args scope.statements

    abbrev result_needs : List Need
    result_needs = gives (is_library_function f) f

    fit_args : AreMet k call_needs → ArgsFit k f args scope.statements
    fit_args = args_met f args scope.statements

    result_stays : result_kept (is_library_function f) (k.result scope.statements) ≡ true → AreMet k result_needs → ResultStays k f scope.statements
    result_stays h m = record { kept = keeps_result (is_library_function f) (k.result scope.statements) h; gives = gives_met f m }

    placed_stays : (a : RawExpr) (r b : Bool) → result_kept (is_library_function f) (k.result scope.statements) ≡ r → k.statement scope.statements ≡ b
        → AreMet k (call_placed raw r b call_needs result_needs l a f some scope).needs
        → Stays scope (roll-RawStatement (RawStatement-F.Call l (target.Place a) f args)) (call_placed raw r b call_needs result_needs l a f some scope)
    placed_stays a true b h q m =
        form_stays (RawStatement-F.Call l (target.Place a) f args) (Calls InBlock (target.Place a) f args) (Calls InBlock (target.Place a) f some) refl refl scope (call_needs ++ result_needs) refl
        (λ n. let p = both_met k call_needs result_needs n in (result_stays h p.1, fit_args p.0)) b q m
    placed_stays a false true h q m =
        let g = loses_result (is_library_function f) (k.result scope.statements) h in
        at_form (s.rolls-Call l (target.Place a) f args) (record {
          thins = Thins.result_goes g.0 g.1 q (fit_args m.1) m.0;
          as_plain = λ p. without_it g.0 g.1 q (fit_args m.1) m.0;
          gives = (call_gives l f some, tt);
        })
    placed_stays a false false h q m = compound tt (Thins.simple_goes (RawStatement-F.Call l (target.Place a) f args) (Calls InBlock (target.Place a) f args) refl refl q)

    call_declared_stays : (v : RawVar) → is_among without_result f ≡ false → (a b r : Bool) → k.variable scope.variables ≡ a → k.statement scope.statements ≡ b
        → result_kept (is_library_function f) (k.result scope.statements) ≡ r
        → AreMet k (call_declared raw a b r call_needs result_needs l v f some scope).needs → Stays scope (s.Call l (target.Declared v) f args) (call_declared raw a b r call_needs result_needs l v f some scope)
    call_declared_stays v given true true true h q w m =
        let p = both_met k call_needs result_needs m.1.1 in
        compound (gives_at (RawStatement-F.Call l (target.Declared v) f some) (s.rolls-Call l (target.Declared v) f some) (λ z. given), tt) (Thins.call (result_stays w p.1) (fit_args p.0) h q m.0 m.1.0)
    call_declared_stays v given true true false h q w m =
        let g = loses_result (is_library_function f) (k.result scope.statements) w in
        compound (declare_gives l v init.None, (call_gives l f some, tt)) (Thins.call_follows g.0 g.1 h q (fit_args m.1.1) m.0 m.1.0)
    call_declared_stays v given false true true h q w m = absurd m.0
    call_declared_stays v given false true false h q w m =
        let g = loses_result (is_library_function f) (k.result scope.statements) w in compound (call_gives l f some, tt) (Thins.call_alone g.0 g.1 h q (fit_args m.1) m.0)
    call_declared_stays v given true false r h q w m = compound (declare_gives l v init.None, tt) (Thins.call_goes given h q m.0)
    call_declared_stays v given false false r h q w m = compound tt (Thins.called_goes h q)

  call_stays : (l : ℕ) (to : RawTarget) (f : Bytes) (args : List RawArg) (scope : Scope) (stand : Stand) → AreKept raw (phrases_step raw (RawStatement-F.Call l to f args) scope stand) → AreMet k (call_left k raw l to f args scope).needs
      → Stays scope (roll-RawStatement (RawStatement-F.Call l to f args)) (call_left k raw l to f args scope)
  call_stays l target.None f args scope stand rules m =
      form_stays (RawStatement-F.Call l target.None f args) (Calls InBlock target.None f args) (Calls InBlock target.None f (kept_args k f scope.statements args)) refl refl scope (passes (is_library_function f) f args scope.statements) refl
      (λ n. (tt, args_met f args scope.statements n)) (k.statement scope.statements) refl m
  call_stays l (target.Place a) f args scope stand rules m = placed_stays l f args scope a (result_kept (is_library_function f) (k.result scope.statements)) (k.statement scope.statements) refl refl m
  call_stays l (target.Declared v) f args scope stand rules m =
      at_form (s.rolls-Call l (target.Declared v) f args)
      (call_declared_stays l f args scope v
      (result_given raw l (with_variable raw v init.None scope) stand v f args (kept_second raw (target_phrases raw l scope stand (target.Declared v)) (phrase l (with_variable raw v init.None scope) (Calls stand (target.Declared v) f args) ∷ []) rules)) (k.variable scope.variables) (k.statement scope.statements) (result_kept (is_library_function f) (k.result scope.statements)) refl refl refl m)

  heap_declared_stays : (l : ℕ) (v : RawVar) (cast : Option RawTypeName) (n : RawAmount) (scope : Scope) (a b : Bool) → k.variable scope.variables ≡ a → k.statement scope.statements ≡ b
      → AreMet k (heap_declared raw a b l v cast n scope).needs → Stays scope (s.Heap l (target.Declared v) cast n) (heap_declared raw a b l v cast n scope)
  heap_declared_stays l v cast n scope true true h q m = compound (gives_at (RawStatement-F.Heap l (target.Declared v) cast n) (s.rolls-Heap l (target.Declared v) cast n) (λ z. tt), tt) (Thins.heap h q m.0 m.1.0)
  heap_declared_stays l v cast n scope true false h q m = compound (declare_gives l v init.None, tt) (Thins.heap_goes h q m.0)
  heap_declared_stays l v cast n scope false true h q m = absurd m.0
  heap_declared_stays l v cast n scope false false h q m = compound tt (Thins.heaped_goes h q)

  heap_stays : (l : ℕ) (to : RawTarget) (cast : Option RawTypeName) (n : RawAmount) (scope : Scope) → AreMet k (heap_left k raw l to cast n scope).needs
      → Stays scope (roll-RawStatement (RawStatement-F.Heap l to cast n)) (heap_left k raw l to cast n scope)
  heap_stays l target.None cast n scope m = plain_stays (RawStatement-F.Heap l target.None cast n) (Allocates target.None cast n) refl refl scope refl tt (k.statement scope.statements) refl m
  heap_stays l (target.Place a) cast n scope m = plain_stays (RawStatement-F.Heap l (target.Place a) cast n) (Allocates (target.Place a) cast n) refl refl scope refl tt (k.statement scope.statements) refl m
  heap_stays l (target.Declared v) cast n scope m =
      at_form (s.rolls-Heap l (target.Declared v) cast n) (heap_declared_stays l v cast n scope (k.variable scope.variables) (k.statement scope.statements) refl refl m)

  -- ---- what stays of statements and arms

  abbrev Holds : RawStatement → Type 0
  Holds x = (scope : Scope) (stand : Stand) → AreKept raw ((scoped raw x).gives scope stand) → AreMet k ((left k raw x).gives scope).needs → Stays scope x ((left k raw x).gives scope)

  abbrev list_phrases : Stand → List RawStatement → Scope → Phrases
  list_phrases stand xs scope = joined_at stand (in_order (map (scoped raw) xs) scope)

  record ArmStays (a : RawArm) (t : Scoped ArmLeft) : Type 0 where
    pub labels : List RawLabel
    pub body : List RawStatement
    pub is : a ≡ arm labels body
    pub same : (scope : Scope) → (t.gives scope).labels ≡ labels
    pub place : (scope : Scope) → (t.gives scope).scope ≡ scope
    pub after : (scope : Scope) → t.after scope ≡ after_list raw body scope
    pub thins : (scope : Scope) → AreKept raw (list_phrases InArm body scope) → AreMet k (t.gives scope).body.needs → ThinAll k raw other scope body (t.gives scope).body.some

  abbrev ArmHolds : RawArm → Type 0
  ArmHolds a = ArmStays a (left_arm k raw a)

  abbrev Statements : Type 0
  Statements = List ((x : RawStatement) × Holds x)

  abbrev bare : Statements → List RawStatement
  bare = map (λ (x : (y : RawStatement) × Holds y). x.0)

  abbrev Arms : Type 0
  Arms = List ((a : RawArm) × ArmHolds a)

  abbrev bare_arms : Arms → List RawArm
  bare_arms = map (λ (x : (y : RawArm) × ArmHolds y). x.0)

  test_after : (i : Option RawStatement) (scope : Scope) → scope_of_test (option_map (left k raw) i) scope ≡ part_scope raw i scope
  test_after i scope = left_after_part k raw i (opened (numbered scope))

  body_after : (i step : Option RawStatement) (scope : Scope) → scope_of_body (option_map (left k raw) i) (option_map (left k raw) step) scope ≡ body_scope raw i step scope
  body_after i step scope =
      ap (after_part (option_map (left k raw) step)) (test_after i scope) ∙ left_after_part k raw step (part_scope raw i scope)

  -- a list in a scope stays as in the same scope
  abbrev ListStays : Scope → List RawStatement → Scope → Type 0
  ListStays scope xs next = AreMet k (body_left k raw xs next).needs → ThinAll k raw other scope xs (body_left k raw xs next).some

  lists : (xs : Statements) (scope : Scope) (stand : Stand) → AreKept raw (list_phrases stand (bare xs) scope) → ListStays scope (bare xs) scope
  lists [] scope stand rules m = ThinAll.none
  lists (x ∷ xs) scope stand rules m =
      let next = (scoped raw x.0).after scope in
      let p = both_met k ((left k raw x.0).gives scope).needs (body_left k raw (bare xs) ((left k raw x.0).after scope)).needs m in
      ThinAll.more (x.1 scope stand (kept_first raw ((scoped raw x.0).gives scope stand) (list_phrases stand (bare xs) next) rules) p.0).thins (subst (ListStays ((scoped raw x.0).after scope) (bare xs)) (sym (left_after k raw x.0 scope)) (lists xs next stand (kept_second raw ((scoped raw x.0).gives scope stand) (list_phrases stand (bare xs) next) rules)) p.1)

  lists_at : (xs : Statements) {scope next : Scope} (stand : Stand) → AreKept raw (list_phrases stand (bare xs) scope) → next ≡ scope → ListStays scope (bare xs) next
  lists_at xs {scope} stand rules h = subst (ListStays scope (bare xs)) (sym h) (lists xs scope stand rules)

  gone_list : {scope : Scope} {xs : List RawStatement} (l : Left) → (AreMet k l.needs → ThinAll k raw other scope xs l.some) → AreMet k (gone l) → ThinAll k raw other scope xs []
  gone_list {scope} {xs} l h m = let p = both_met k l.needs (strays l.some) m in subst (ThinAll k raw other scope xs) (none_strays k l.some p.1) (h p.0)

  gone_one : {scope : Scope} {x : RawStatement} (l : Left) → (AreMet k l.needs → Stays scope x l) → AreMet k (gone l) → Thins k raw other scope x []
  gone_one {scope} {x} l h m = let p = both_met k l.needs (strays l.some) m in subst (Thins k raw other scope x) (none_strays k l.some p.1) (h p.0).thins

  -- ---- blocks

  block_stays : {scope : Scope} (l : ℕ) (body some : List RawStatement) → ThinAll k raw other (opened scope) body some → Thins k raw other scope (s.Block l body) (block_of l some)
  block_stays l body [] t = Thins.block_goes t
  block_stays l body (x ∷ rest) t = Thins.block t

  -- ---- ifs and loops

  if_stays : (l : ℕ) (a : RawExpr) (b c : Statements) (scope : Scope) → AreKept raw (list_phrases InBlock (bare b) (opened (numbered scope)))
      → AreKept raw (list_phrases InBlock (bare c) (opened (block_after raw (bare b) (numbered scope)))) → (kept : Bool) → k.statement scope.statements ≡ kept
      → AreMet k (if_left raw kept l a (block_left k raw (map (left k raw) (bare b)) (numbered scope)) (block_left k raw (map (left k raw) (bare c)) (after_block (map (left k raw) (bare b)) (numbered scope))) scope).needs
      → Stays scope (s.If l a (bare b) (bare c))
      (if_left raw kept l a (block_left k raw (map (left k raw) (bare b)) (numbered scope)) (block_left k raw (map (left k raw) (bare c)) (after_block (map (left k raw) (bare b)) (numbered scope))) scope)
  if_stays l a b c scope rb rc true h m =
      let first = block_left k raw (map (left k raw) (bare b)) (numbered scope) in
      let second = block_left k raw (map (left k raw) (bare c)) (after_block (map (left k raw) (bare b)) (numbered scope)) in
      let p = both_met k first.needs second.needs m.1 in
      compound (gives_at (RawStatement-F.If l a first.some second.some) (s.rolls-If l a first.some second.some) (λ q. tt), tt) (Thins.conditional h m.0 (lists b (opened (numbered scope)) InBlock rb p.0) (lists_at c InBlock rc (ap opened (left_after_block k raw (bare b) (numbered scope))) p.1))
  if_stays l a b c scope rb rc false h m =
      let first = block_left k raw (map (left k raw) (bare b)) (numbered scope) in
      let second = block_left k raw (map (left k raw) (bare c)) (after_block (map (left k raw) (bare b)) (numbered scope)) in
      let p = both_met k (gone first) (gone second) m in
      compound tt (Thins.conditional_goes h (gone_list first (lists b (opened (numbered scope)) InBlock rb) p.0) (gone_list second (lists_at c InBlock rc (ap opened (left_after_block k raw (bare b) (numbered scope)))) p.1))

  while_stays : (l : ℕ) (a : RawExpr) (b : Statements) (scope : Scope) → AreKept raw (list_phrases InBlock (bare b) (opened (numbered scope))) → (kept : Bool) → k.statement scope.statements ≡ kept
      → AreMet k (while_left raw kept l a (block_left k raw (map (left k raw) (bare b)) (numbered scope)) scope).needs
      → Stays scope (s.While l a (bare b)) (while_left raw kept l a (block_left k raw (map (left k raw) (bare b)) (numbered scope)) scope)
  while_stays l a b scope rb true h m = compound (gives_at (RawStatement-F.While l a (block_left k raw (map (left k raw) (bare b)) (numbered scope)).some) (s.rolls-While l a (block_left k raw (map (left k raw) (bare b)) (numbered scope)).some) (λ q. tt), tt) (Thins.while_loop h m.0 (lists b (opened (numbered scope)) InBlock rb m.1))
  while_stays l a b scope rb false h m = compound tt (Thins.while_goes h (gone_list (block_left k raw (map (left k raw) (bare b)) (numbered scope)) (lists b (opened (numbered scope)) InBlock rb) m))

  do_stays : (l : ℕ) (a : RawExpr) (b : Statements) (scope : Scope) → AreKept raw (list_phrases InBlock (bare b) (opened (numbered scope))) → (kept : Bool) → k.statement scope.statements ≡ kept
      → AreMet k (do_left raw kept l a (block_left k raw (map (left k raw) (bare b)) (numbered scope)) scope).needs
      → Stays scope (s.Do l a (bare b)) (do_left raw kept l a (block_left k raw (map (left k raw) (bare b)) (numbered scope)) scope)
  do_stays l a b scope rb true h m = compound (gives_at (RawStatement-F.Do l a (block_left k raw (map (left k raw) (bare b)) (numbered scope)).some) (s.rolls-Do l a (block_left k raw (map (left k raw) (bare b)) (numbered scope)).some) (λ q. tt), tt) (Thins.do_loop h m.0 (lists b (opened (numbered scope)) InBlock rb m.1))
  do_stays l a b scope rb false h m = compound tt (Thins.do_goes h (gone_list (block_left k raw (map (left k raw) (bare b)) (numbered scope)) (lists b (opened (numbered scope)) InBlock rb) m))

  -- ---- parts of a for

  abbrev PartHolds : Option RawStatement → Type 0
  PartHolds None = Unit {0}
  PartHolds (Some x) = Holds x

  only_stays : {scope : Scope} {x : RawStatement} (ys : List RawStatement) → Thins k raw other scope x ys → AreMet k (beyond ys) → ThinsPart k raw other scope (Some x) (only ys)
  only_stays [] t m = ThinsPart.part_goes t
  only_stays (y ∷ []) t m = ThinsPart.part_stays t
  only_stays (y ∷ (z ∷ rest)) t m = absurd m.0

  abbrev PartStays : Scope → Option RawStatement → Scope → Type 0
  PartStays scope x next = AreMet k (part_needs (part_given k raw x next)) → ThinsPart k raw other scope x (part_left (part_given k raw x next))

  part_stays_here : (x : Option RawStatement) → PartHolds x → (scope : Scope) (stand : Stand) → AreKept raw (at_stand stand (part_gives (option_map (scoped raw) x) scope)) → PartStays scope x scope
  part_stays_here None h scope stand rules m = ThinsPart.missing
  part_stays_here (Some x) h scope stand rules m =
      let l = (left k raw x).gives scope in let p = both_met k l.needs (beyond l.some) m in only_stays l.some (h scope stand rules p.0).thins p.1

  part_stays_at : (x : Option RawStatement) → PartHolds x → {scope next : Scope} (stand : Stand) → AreKept raw (at_stand stand (part_gives (option_map (scoped raw) x) scope)) → next ≡ scope → PartStays scope x next
  part_stays_at x h {scope} stand rules q = subst (PartStays scope x) (sym q) (part_stays_here x h scope stand rules)

  abbrev PartGoes : Scope → Option RawStatement → Scope → Type 0
  PartGoes scope x next = AreMet k (part_gone (part_given k raw x next)) → ThinsPart k raw other scope x None

  part_goes_here : (x : Option RawStatement) → PartHolds x → (scope : Scope) (stand : Stand) → AreKept raw (at_stand stand (part_gives (option_map (scoped raw) x) scope)) → PartGoes scope x scope
  part_goes_here None h scope stand rules m = ThinsPart.missing
  part_goes_here (Some x) h scope stand rules m = ThinsPart.part_goes (gone_one ((left k raw x).gives scope) (h scope stand rules) m)

  part_goes_at : (x : Option RawStatement) → PartHolds x → {scope next : Scope} (stand : Stand) → AreKept raw (at_stand stand (part_gives (option_map (scoped raw) x) scope)) → next ≡ scope → PartGoes scope x next
  part_goes_at x h {scope} stand rules q = subst (PartGoes scope x) (sym q) (part_goes_here x h scope stand rules)

  -- what a for begins with, without it
  module _ (l : ℕ) (a : RawExpr) (step : Option RawStatement) (body : List RawStatement) (scope : Scope) (goes : k.statement scope.statements ≡ false) where
    abbrev RestGoes : RawStatement → Type 0
    RestGoes x = ThinsPart k raw other (part_scope raw (Some x) scope) step None × ThinAll k raw other (opened (body_scope raw (Some x) step scope)) body []

    plain_alone : {x : RawStatement} {some : List RawStatement} → StaysAlone (opened (numbered scope)) x some → RestGoes x → Thins k raw other scope (s.For l (Some x) a step body) some
    plain_alone (without_it {a = place} {args} strange less kept fits stay) r = Thins.for_result_goes place args goes strange less kept fits (record { names = stay.names; functions = stay.functions }) r.0 r.1
    plain_alone {x} (with_result w) r =
        subst (Thins k raw other scope (s.For l (Some x) a step body)) (sym w.one)
        (subst (λ (z : RawStatement). RestGoes z → Thins k raw other scope (s.For l (Some z) a step body) (roll-RawStatement (kept_form k (numbered scope).statements w.form) ∷ [])) (sym w.is)
        (λ q. Thins.for_simple w.form w.part goes w.simple w.quiet w.kept (fits_before k raw (numbered scope) w.form w.whole) (record { names = w.names.names; functions = w.names.functions }) q.0 q.1) r)

    one_alone : {x : RawStatement} (y : RawStatement) (declaring is_plain : Bool) → declares (out-RawStatement y) ≡ declaring
        → Thins k raw other (opened (numbered scope)) x (y ∷ []) → (is_plain ≡ true → StaysAlone (opened (numbered scope)) x (y ∷ [])) → Gives y → RestGoes x
        → AreMet k (alone_one declaring is_plain l y).needs → Thins k raw other scope (s.For l (Some x) a step body) (alone_one declaring is_plain l y).some
    one_alone y true is_plain d t p g r m = Thins.for_block goes d (g d) t r.0 r.1
    one_alone y false true d t p g r m = plain_alone (p refl) r
    one_alone y false false d t p g r m = absurd m.0

    all_alone : {x : RawStatement} (is_plain : Bool) (ys : List RawStatement)
        → Thins k raw other (opened (numbered scope)) x ys → (is_plain ≡ true → StaysAlone (opened (numbered scope)) x ys) → AllGive ys → RestGoes x
        → AreMet k (alone_all is_plain l ys).needs → Thins k raw other scope (s.For l (Some x) a step body) (alone_all is_plain l ys).some
    all_alone is_plain [] t p g r m = Thins.for_goes goes (ThinsPart.part_goes t) r.0 r.1
    all_alone is_plain (y ∷ []) t p g r m = one_alone y (declares (out-RawStatement y)) is_plain refl t p g.0 r m
    all_alone is_plain (y ∷ (z ∷ rest)) t p g r m = absurd m.0

    one_gives : (y : RawStatement) (declaring is_plain : Bool) → Gives y → AllGive (alone_one declaring is_plain l y).some
    one_gives y true is_plain g = block_gives l (y ∷ [])
    one_gives y false true g = (g, tt)
    one_gives y false false g = tt

    all_gives : (is_plain : Bool) (ys : List RawStatement) → AllGive ys → AllGive (alone_all is_plain l ys).some
    all_gives is_plain [] g = tt
    all_gives is_plain (y ∷ []) g = one_gives y (declares (out-RawStatement y)) is_plain g.0
    all_gives is_plain (y ∷ (z ∷ rest)) g = tt

    begin_alone : (i : Option RawStatement) → PartHolds i → AreKept raw (at_stand InFor (part_gives (option_map (scoped raw) i) (opened (numbered scope)))) → ThinsPart k raw other (part_scope raw i scope) step None → ThinAll k raw other (opened (body_scope raw i step scope)) body []
        → AreMet k (left_alone l (part_given k raw i (opened (numbered scope)))).needs
        → AllGive (left_alone l (part_given k raw i (opened (numbered scope)))).some × Thins k raw other scope (s.For l i a step body) (left_alone l (part_given k raw i (opened (numbered scope)))).some
    begin_alone None h rules t r m = (tt, Thins.for_goes goes ThinsPart.missing t r)
    begin_alone (Some x) h rules t r m =
        let x_left = (left k raw x).gives (opened (numbered scope)) in
        let p = both_met k x_left.needs (alone_all x_left.is_plain l x_left.some).needs m in
        let w = h (opened (numbered scope)) InFor rules p.0 in
        (all_gives x_left.is_plain x_left.some w.gives, all_alone x_left.is_plain x_left.some w.thins w.as_plain w.gives (t, r) p.1)

  abbrev for_of : Bool → ℕ → Option RawStatement → RawExpr → Option RawStatement → Statements → Scope → Left
  for_of kept l i a step b scope =
      for_left raw kept l (part_given k raw i (opened (numbered scope))) a (part_given k raw step (scope_of_test (option_map (left k raw) i) scope))
      (block_left k raw (map (left k raw) (bare b)) (scope_of_body (option_map (left k raw) i) (option_map (left k raw) step) scope)) (scope_of_test (option_map (left k raw) i) scope)

  for_stays : (l : ℕ) (i : Option RawStatement) (a : RawExpr) (step : Option RawStatement) (b : Statements) → PartHolds i → PartHolds step → (scope : Scope)
      → AreKept raw (at_stand InFor (part_gives (option_map (scoped raw) i) (opened (numbered scope)))) → AreKept raw (at_stand InBlock (part_gives (option_map (scoped raw) step) (part_scope raw i scope)))
      → AreKept raw (list_phrases InBlock (bare b) (opened (body_scope raw i step scope))) → (kept : Bool)
      → k.statement scope.statements ≡ kept → AreMet k (for_of kept l i a step b scope).needs → Stays scope (s.For l i a step (bare b)) (for_of kept l i a step b scope)
  for_stays l i a step b hi hs scope ri rs rb true h m =
      let test = scope_of_test (option_map (left k raw) i) scope in
      let body = block_left k raw (map (left k raw) (bare b)) (scope_of_body (option_map (left k raw) i) (option_map (left k raw) step) scope) in
      let p = both_met k (part_needs (part_given k raw i (opened (numbered scope)))) (part_needs (part_given k raw step test) ++ body.needs) m.1 in
      let q = both_met k (part_needs (part_given k raw step test)) body.needs p.1 in
      let begin = part_left (part_given k raw i (opened (numbered scope))) in
      let next = part_left (part_given k raw step test) in
      compound (for_gives l begin a next body.some, tt) (Thins.for_loop h (subst (λ (z : Scope). NamesStay k z (Tests a)) (test_after i scope) m.0)
      (part_stays_here i hi (opened (numbered scope)) InFor ri p.0) (part_stays_at step hs InBlock rs (test_after i scope) q.0) (lists_at b InBlock rb (ap opened (body_after i step scope)) q.1))
  for_stays l i a step b hi hs scope ri rs rb false h m =
      let test = scope_of_test (option_map (left k raw) i) scope in
      let body = block_left k raw (map (left k raw) (bare b)) (scope_of_body (option_map (left k raw) i) (option_map (left k raw) step) scope) in
      let p = both_met k (left_alone l (part_given k raw i (opened (numbered scope)))).needs (part_gone (part_given k raw step test) ++ gone body) m in
      let q = both_met k (part_gone (part_given k raw step test)) (gone body) p.1 in
      let r = begin_alone l a step (bare b) scope h i hi ri (part_goes_at step hs InBlock rs (test_after i scope) q.0) (gone_list body (lists_at b InBlock rb (ap opened (body_after i step scope))) q.1) p.0 in
      compound r.0 r.1

  -- ---- arms

  one_arm : {scope : Scope} {labels : List RawLabel} {body : List RawStatement} {a : RawArm} {rest others : List RawArm} (l : ArmLeft) → a ≡ arm labels body → l.labels ≡ labels → l.scope ≡ scope
      → LabelsStay k l.scope l.labels → ThinAll k raw other scope body l.body.some → ThinArms k raw other (after_list raw body scope) rest others
      → ThinArms k raw other scope (a ∷ rest) (arm l.labels l.body.some ∷ others)
  one_arm {scope} {labels} {body} {a} {rest} {others} l is same place stay t r =
      subst (λ (z : RawArm). ThinArms k raw other scope (z ∷ rest) (arm l.labels l.body.some ∷ others)) (sym is)
      (subst (λ (z : List RawLabel). ThinArms k raw other scope (arm z body ∷ rest) (arm l.labels l.body.some ∷ others)) same
      (ThinArms.arm_stays (subst (λ (z : Scope). LabelsStay k z l.labels) place stay) t r))

  abbrev arms_given : List RawArm → Scope → List ArmLeft
  arms_given xs scope = in_order (map (left_arm k raw) xs) scope

  abbrev ArmsStay : Scope → List RawArm → Scope → Type 0
  ArmsStay scope xs next = AreMet k (arms_needs (arms_given xs next)) → ThinArms k raw other scope xs (arms_left (arms_given xs next))

  text_arm : {a : RawArm} (labels : List RawLabel) (body : List RawStatement) → a ≡ arm labels body → scoped_of_arm raw a ≡ scoped_arm (record { labels = labels; body = map (scoped raw) body })
  text_arm labels body is = ap (scoped_of_arm raw) is ∙ scoped_of_arm-arm raw labels body

  abbrev arm_phrases : List RawArm → Scope → Phrases
  arm_phrases xs scope = phrases_of_arms (in_order (map (scoped_of_arm raw) xs) scope)

  -- the rules of an arm, and of those behind it
  front_rules : (a : RawArm) (rest : List RawArm) (w : ArmHolds a) (scope : Scope) → AreKept raw (arm_phrases (a ∷ rest) scope) → AreKept raw (list_phrases InArm w.body scope)
  front_rules a rest w scope rules =
      subst (λ (t : Scoped ArmText). AreKept raw (t.gives scope).phrases) (text_arm w.labels w.body w.is)
      (kept_first raw ((scoped_of_arm raw a).gives scope).phrases (arm_phrases rest ((scoped_of_arm raw a).after scope)) rules)

  behind_rules : (a : RawArm) (rest : List RawArm) (w : ArmHolds a) (scope : Scope) → AreKept raw (arm_phrases (a ∷ rest) scope) → AreKept raw (arm_phrases rest (after_list raw w.body scope))
  behind_rules a rest w scope rules =
      subst (λ (t : Scoped ArmText). AreKept raw (arm_phrases rest (t.after scope))) (text_arm w.labels w.body w.is)
      (kept_second raw ((scoped_of_arm raw a).gives scope).phrases (arm_phrases rest ((scoped_of_arm raw a).after scope)) rules)

  arms_stay : (xs : Arms) (scope : Scope) → AreKept raw (arm_phrases (bare_arms xs) scope) → ArmsStay scope (bare_arms xs) scope
  arms_stay [] scope rules m = ThinArms.no_arms
  arms_stay (x ∷ xs) scope rules m =
      let w = x.1 in
      let l = (left_arm k raw x.0).gives scope in
      let p = both_met k l.body.needs (arms_needs (arms_given (bare_arms xs) ((left_arm k raw x.0).after scope))) m.1 in
      one_arm l w.is (w.same scope) (w.place scope) m.0 (w.thins scope (front_rules x.0 (bare_arms xs) w scope rules) p.0)
      (subst (ArmsStay (after_list raw w.body scope) (bare_arms xs)) (sym (w.after scope)) (arms_stay xs (after_list raw w.body scope) (behind_rules x.0 (bare_arms xs) w scope rules)) p.1)

  abbrev ArmsAllGo : Scope → List RawArm → Scope → Type 0
  ArmsAllGo scope xs next = AreMet k (arms_gone (arms_given xs next)) → ArmsGo k raw other scope xs

  arms_go : (xs : Arms) (scope : Scope) → AreKept raw (arm_phrases (bare_arms xs) scope) → ArmsAllGo scope (bare_arms xs) scope
  arms_go [] scope rules m = ArmsGo.no_arms_left
  arms_go (x ∷ xs) scope rules m =
      let w = x.1 in
      let l = (left_arm k raw x.0).gives scope in
      let p = both_met k (gone l.body) (arms_gone (arms_given (bare_arms xs) ((left_arm k raw x.0).after scope))) m in
      subst (λ (z : RawArm). ArmsGo k raw other scope (z ∷ bare_arms xs)) (sym w.is)
      (ArmsGo.arm_goes (gone_list l.body (w.thins scope (front_rules x.0 (bare_arms xs) w scope rules)) p.0)
      (subst (ArmsAllGo (after_list raw w.body scope) (bare_arms xs)) (sym (w.after scope)) (arms_go xs (after_list raw w.body scope) (behind_rules x.0 (bare_arms xs) w scope rules)) p.1))

  same_labels : (xs : Arms) (scope next : Scope) → arms_labels (arms_given (bare_arms xs) scope) ≡ arm_labels raw (bare_arms xs) next
  same_labels [] scope next = refl
  same_labels (x ∷ xs) scope next =
      let w = x.1 in
      ap₂ (λ (some others : List RawLabel). some ++ others) (w.same scope ∙ sym (ap (λ (t : Scoped ArmText). (t.gives next).labels) (text_arm w.labels w.body w.is)))
      (same_labels xs ((left_arm k raw x.0).after scope) ((scoped_of_arm raw x.0).after next))

  switch_stays : (l : ℕ) (a : RawExpr) (arms : Arms) (scope : Scope) → AreKept raw (arm_phrases (bare_arms arms) (opened (numbered scope))) → (kept : Bool) → k.statement scope.statements ≡ kept
      → AreMet k (switch_left raw kept l a (arms_given (bare_arms arms) (opened (numbered scope))) scope).needs
      → Stays scope (s.Switch l a (bare_arms arms)) (switch_left raw kept l a (arms_given (bare_arms arms) (opened (numbered scope))) scope)
  switch_stays l a arms scope rules true h m =
      let others = arms_left (arms_given (bare_arms arms) (opened (numbered scope))) in
      compound (gives_at (RawStatement-F.Switch l a others) (s.rolls-Switch l a others) (λ q. tt), tt)
      (Thins.switch h (subst (λ (z : List RawLabel). NamesStay k scope (Switches a z)) (same_labels arms (opened (numbered scope)) (opened (numbered scope))) m.0)
      (arms_stay arms (opened (numbered scope)) rules m.1))
  switch_stays l a arms scope rules false h m = compound tt (Thins.switch_goes h (arms_go arms (opened (numbered scope)) rules m))

  -- ---- every statement

  abbrev Layer : Type 0
  Layer = RawStatement-F ((x : RawStatement) × Holds x) ((a : RawArm) × ArmHolds a)

  abbrev shape : Layer → RawStatement-F RawStatement RawArm
  shape = map-RawStatement ((x : RawStatement) × Holds x) ((a : RawArm) × ArmHolds a) RawStatement RawArm (λ x. x.0) (λ a. a.0)

  abbrev lefts : RawStatement-F RawStatement RawArm → RawStatement-F (Scoped Left) (Scoped ArmLeft)
  lefts y = map-RawStatement RawStatement RawArm (Scoped Left) (Scoped ArmLeft) (left k raw) (left_arm k raw) y

  abbrev texts : RawStatement-F RawStatement RawArm → RawStatement-F (Scoped (Stand → Phrases)) (Scoped ArmText)
  texts y = map-RawStatement RawStatement RawArm (Scoped (Stand → Phrases)) (Scoped ArmText) (scoped raw) (scoped_of_arm raw) y

  -- the rules of the parts of a for
  for_layer : (l : ℕ) (i : Option RawStatement) (a : RawExpr) (step : Option RawStatement) (b : Statements) → PartHolds i → PartHolds step → (scope : Scope)
      → AreKept raw (at_stand InFor (part_gives (option_map (scoped raw) i) (opened (numbered scope)))
      ++ (phrase l (part_scope raw i scope) (Tests a)
      ∷ (at_stand InBlock (part_gives (option_map (scoped raw) step) (part_scope raw i scope)) ++ list_phrases InBlock (bare b) (opened (body_scope raw i step scope)))))
      → AreMet k (for_of (k.statement scope.statements) l i a step b scope).needs → Stays scope (s.For l i a step (bare b)) (for_of (k.statement scope.statements) l i a step b scope)
  for_layer l i a step b hi hs scope rules m =
      let first = at_stand InFor (part_gives (option_map (scoped raw) i) (opened (numbered scope))) in
      let test = phrase l (part_scope raw i scope) (Tests a) in
      let next = at_stand InBlock (part_gives (option_map (scoped raw) step) (part_scope raw i scope)) in
      let body = list_phrases InBlock (bare b) (opened (body_scope raw i step scope)) in
      let rest = (kept_second raw first (test ∷ (next ++ body)) rules).1 in
      for_stays l i a step b hi hs scope (kept_first raw first (test ∷ (next ++ body)) rules) (kept_first raw next body rest) (kept_second raw next body rest) (k.statement scope.statements) refl m

  of_layer : (y : Layer) (scope : Scope) (stand : Stand) → AreKept raw (phrases_step raw (texts (shape y)) scope stand) → AreMet k (left_step k raw (lefts (shape y)) scope).needs
      → Stays scope (roll-RawStatement (shape y)) (left_step k raw (lefts (shape y)) scope)
  of_layer (RawStatement-F.Declare l v i) scope stand rules m = at_form (s.rolls-Declare l v i) (declare_stays l v i scope m)
  of_layer (RawStatement-F.Assign l a op b) scope stand rules m = plain_stays (RawStatement-F.Assign l a op b) (Assigns a op b) refl refl scope refl tt (k.statement scope.statements) refl m
  of_layer (RawStatement-F.Bump l a up before) scope stand rules m = plain_stays (RawStatement-F.Bump l a up before) (Bumps a) refl refl scope refl tt (k.statement scope.statements) refl m
  of_layer (RawStatement-F.Call l to f args) scope stand rules m = call_stays l to f args scope stand rules m
  of_layer (RawStatement-F.Heap l to cast n) scope stand rules m = heap_stays l to cast n scope m
  of_layer (RawStatement-F.If l a b c) scope stand rules m =
      let first = list_phrases InBlock (bare b) (opened (numbered scope)) in
      let second = list_phrases InBlock (bare c) (opened (block_after raw (bare b) (numbered scope))) in
      let rest = rules.1 in
      at_form (s.rolls-If l a (bare b) (bare c)) (if_stays l a b c scope (kept_first raw first second rest) (kept_second raw first second rest) (k.statement scope.statements) refl m)
  of_layer (RawStatement-F.While l a b) scope stand rules m =
      let rest = rules.1 in
      at_form (s.rolls-While l a (bare b)) (while_stays l a b scope rest (k.statement scope.statements) refl m)
  of_layer (RawStatement-F.Do l a b) scope stand rules m =
      let rest = rules.1 in
      at_form (s.rolls-Do l a (bare b)) (do_stays l a b scope rest (k.statement scope.statements) refl m)
  of_layer (RawStatement-F.For l None a None b) scope stand rules m = at_form (s.rolls-For l None a None (bare b)) (for_layer l None a None b tt tt scope rules m)
  of_layer (RawStatement-F.For l None a (Some n) b) scope stand rules m = at_form (s.rolls-For l None a (Some n.0) (bare b)) (for_layer l None a (Some n.0) b tt n.1 scope rules m)
  of_layer (RawStatement-F.For l (Some i) a None b) scope stand rules m = at_form (s.rolls-For l (Some i.0) a None (bare b)) (for_layer l (Some i.0) a None b i.1 tt scope rules m)
  of_layer (RawStatement-F.For l (Some i) a (Some n) b) scope stand rules m = at_form (s.rolls-For l (Some i.0) a (Some n.0) (bare b)) (for_layer l (Some i.0) a (Some n.0) b i.1 n.1 scope rules m)
  of_layer (RawStatement-F.Switch l a arms) scope stand rules m =
      let all = arm_phrases (bare_arms arms) (opened (numbered scope)) in
      let rest = rules.1 in
      at_form (s.rolls-Switch l a (bare_arms arms)) (switch_stays l a arms scope rest (k.statement scope.statements) refl m)
  of_layer (RawStatement-F.Block l b) scope stand rules m =
      let some = (block_left k raw (map (left k raw) (bare b)) scope).some in
      at_form (s.rolls-Block l (bare b)) (compound (block_gives l some) (block_stays l (bare b) some (lists b (opened scope) InBlock rules m)))
  of_layer (RawStatement-F.Return l a) scope stand rules m = form_stays (RawStatement-F.Return l a) (Returns a) (Returns a) refl refl scope (return_needs (head_around raw scope) a) refl (return_met (head_around raw scope) a) (k.statement scope.statements) refl m

  statement_layer : (y : Layer) → Holds (roll-RawStatement (shape y))
  statement_layer y scope stand rules =
      subst (λ (t : Scoped Left). AreMet k (t.gives scope).needs → Stays scope (roll-RawStatement (shape y)) (t.gives scope))
      (sym (fold-roll-RawStatement (Scoped Left) (Scoped ArmLeft) (left_scoped k raw) (left_arm_step k raw) (shape y)))
      (of_layer y scope stand
      (subst (λ (t : Scoped (Stand → Phrases)). AreKept raw (t.gives scope stand)) (fold-roll-RawStatement (Scoped (Stand → Phrases)) (Scoped ArmText) (scoped_step raw) scoped_arm (shape y)) rules))

  abbrev arm_shape : RawArm-F ((x : RawStatement) × Holds x) ((a : RawArm) × ArmHolds a) → RawArm-F RawStatement RawArm
  arm_shape = map-RawArm ((x : RawStatement) × Holds x) ((a : RawArm) × ArmHolds a) RawStatement RawArm (λ x. x.0) (λ a. a.0)

  arm_layer : (y : RawArm-F ((x : RawStatement) × Holds x) ((a : RawArm) × ArmHolds a)) → ArmHolds (roll-RawArm (arm_shape y))
  arm_layer y =
      subst (ArmStays (roll-RawArm (arm_shape y))) (sym (fold-roll-RawArm (Scoped Left) (Scoped ArmLeft) (left_scoped k raw) (left_arm_step k raw) (arm_shape y)))
      (record {
        labels = y.labels;
        body = bare y.body;
        is = refl;
        same = λ scope. refl;
        place = λ scope. refl;
        after = λ scope. left_after_list k raw (bare y.body) scope;
        thins = λ scope rules. lists y.body scope InArm rules;
      })

  statement_stays : (x : RawStatement) → Holds x
  statement_stays = ind-RawStatement Holds ArmHolds (λ x y is. subst (λ z. Holds (roll-RawStatement z)) is (statement_layer y)) (λ x y is. subst (λ z. ArmHolds (roll-RawArm z)) is (arm_layer y))

  pub body_stays : (xs : List RawStatement) (scope : Scope) → AreKept raw (body_phrases raw xs scope) → AreMet k (body_left k raw xs scope).needs → ThinAll k raw other scope xs (body_left k raw xs scope).some
  body_stays [] scope rules m = ThinAll.none
  body_stays (x ∷ xs) scope rules m =
      let next = (scoped raw x).after scope in
      let p = both_met k ((left k raw x).gives scope).needs (body_left k raw xs ((left k raw x).after scope)).needs m in
      ThinAll.more (statement_stays x scope InBlock (kept_first raw ((scoped raw x).gives scope InBlock) (body_phrases raw xs next) rules) p.0).thins
      (subst (ListStays next xs) (sym (left_after k raw x scope)) (body_stays xs next (kept_second raw ((scoped raw x).gives scope InBlock) (body_phrases raw xs next) rules)) p.1)

  pub body_goes : (xs : List RawStatement) (scope : Scope) → AreKept raw (body_phrases raw xs scope) → AreMet k (gone (body_left k raw xs scope)) → ThinAll k raw other scope xs []
  body_goes xs scope rules m = gone_list (body_left k raw xs scope) (body_stays xs scope rules) m
