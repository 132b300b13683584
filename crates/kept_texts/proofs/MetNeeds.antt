-- What is kept of single statements of a function has what it needs, where what the function does is kept as it hangs together.
use Rattle.std.proofs.Common.{◌≡◌, ℕ, zero, suc, ◌==◌, ◌<◌, Bool, true, false, ◌&&◌, ◌||◌, List, [], ◌∷◌, ◌++◌, map, length, Option, Some, None, option_map, option_and_then, bytes_eq, codes, decimal, slice_get, refl, sym, ap, ap₂, subst, ◌∙◌, arith}
use Rattle.std.specs.Prelude.{if◌then◌else◌}
use Rattle.std.specs.Option.{option_map_or}
use Rattle.std.proofs.lemmas.Bool.{and_parts, and_from, or_parts, or_left, or_right, eq-eqb}
use Rattle.c_tree.specs.declared.types.CType.{CType}
use Rattle.c_tree.specs.declared.expr.Expr.{Expr}
use Rattle.c_tree.specs.declared.program.Init.{Init}
use Rattle.c_tree.specs.declared.raw.expr.RawExpr.{RawExpr}
use Rattle.c_tree.specs.declared.raw.expr.RawExpr.TheVariants as e
use Rattle.c_tree.specs.declared.raw.expr.RawVar.{RawVar}
use Rattle.c_tree.specs.declared.raw.program.RawHead.{RawHead}
use Rattle.c_tree.specs.declared.raw.program.RawInit.{RawInit}
use Rattle.c_tree.specs.declared.raw.program.RawInit.TheVariants as init
use Rattle.c_tree.specs.declared.raw.program.RawProgram.{RawProgram}
use Rattle.c_tree.specs.declared.raw.statement.RawAmount.{RawAmount}
use Rattle.c_tree.specs.declared.raw.statement.RawArg.{RawArg}
use Rattle.c_tree.specs.declared.raw.statement.RawArm.{RawArm}
use Rattle.c_tree.specs.declared.raw.statement.RawStatement.{RawStatement, out-RawStatement}
use Rattle.c_tree.specs.declared.raw.statement.RawStatement.TheOpen.{RawStatement-F}
use Rattle.c_tree.specs.declared.raw.statement.RawStatement.TheViews.{out-roll-RawStatement}
use Rattle.c_tree.specs.declared.raw.statement.RawStatement.TheVariants as raw_s
use Rattle.c_tree.specs.declared.raw.statement.RawTarget.{RawTarget}
use Rattle.c_tree.specs.declared.raw.statement.RawTarget.TheVariants as target
use Rattle.c_tree.specs.declared.raw.statement.RawTypeName.{RawTypeName}
use Rattle.c_tree.specs.declared.statement.Arm.{Arm, fold-roll-Arm}
use Rattle.c_tree.specs.declared.statement.Statement.{Statement, roll-Statement, map-Statement, fold-roll-Statement}
use Rattle.c_tree.specs.declared.statement.Statement.TheOpen.{Statement-F}
use Rattle.c_tree.specs.declared.statement.Statement.TheVariants as s
use Rattle.c_tree.specs.declared.statement.Target.{Target}
use Rattle.c_tree.specs.declared.statement.Target.TheVariants as to_place
use Rattle.c_language.specs.Words.{Bytes}
use Rattle.c_language.specs.CallRules.{MisusesResult, MisusesLibrary, without_result, head_around, format_in, later_args}
use Rattle.c_language.specs.Code.{Act, Begins as BeginsAct, Sets, Fetches, Writes, Prints, Frees, Allocates as AllocatesAct, Bumps as BumpsAct, Returns as ReturnsAct}
use Rattle.c_language.specs.ConstantEvaluation.{both}
use Rattle.c_language.specs.DeclaredTypes.{defined_functions, function_id, item_count}
use Rattle.c_language.specs.NameRules.{UsesUndeclared}
use Rattle.c_language.specs.Names.{names, target_names, act_names}
use Rattle.c_language.specs.Phrases.{Stand, InBlock, InFor, Part, Declares, Begins, Calls, Allocates, Returns, phrase, declaration, target_phrases}
use Rattle.c_language.specs.ProgramOf.{collected, optional, ctype_if, expr_of, init_of, declaration_id, target_tree, arg_tree, args_tree, only_tree, print_tree, invoke_tree, call_tree, amount_tree, heap_tree}
use Rattle.c_language.specs.Rules.{Breaks, KeepsRules, KeepsAll}
use Rattle.c_language.specs.Scopes.{Scope, Meaning, Entry, with_variable, with_target}
use Rattle.c_language.specs.SwitchRules.{MisplacesDeclaration}
use Rattle.c_language.specs.Syntax.{Extent, Position, is_there, is_begun, is_declared, is_expr, is_target, is_stored}
use Rattle.c_language.specs.TypeGrammar.{is_written, named_type}
use Rattle.c_language.specs.Uses.{is_library_function, is_among, lengths_in, arg_exprs}
use Rattle.c_language.proofs.Lists.{same_bytes, no_list}
use Rattle.c_language.proofs.Options.{some_same, optional_there, map_there, then_there, both_there, more_there}
use Rattle.c_language.proofs.Tests.{false_true, none_of}
use Rattle.dep_model.specs.Doings.{Doing, Does, Calls as CallsOf, doings}
use Rattle.dep_model.proofs.DoingForms.{doings-Declare, doings-Assign, doings-Bump, doings-Invoke, doings-Fetch, doings-Write, doings-Print, doings-Heap, doings-Release, doings-Return}
use Rattle.numbered_texts.specs.FittingCalls.{stores}
use Rattle.projection.specs.Kept.{KeptWords, Kept, chosen}
use Rattle.projection.specs.Names.{call_names}
use Rattle.c_scope_laws.specs.Agreement.{NamedAmong, IsCount}
use Rattle.c_scope_laws.specs.Thinning.{found, EntryStays, NamesStay, declares, kept_args}
use Rattle.c_scope_laws.specs.ThinnedBodies.{Need, AreMet, Left, gone, strays, beyond, plain, plain_with, passes, gives, return_needs, declared, counted_var, count_needs, call_placed, call_declared, heap_declared, result_kept, declare_left, call_left, heap_left, left_alone, alone_all, alone_one}
use Rattle.c_scope_laws.proofs.ChosenLists.{chosen_map, chosen_collected}
use Rattle.c_scope_laws.proofs.ThinnedBodies.{join_met}
use Rattle.projection_laws.specs.Staying.{Rest, any_stays, all_clear, target_stays, rest_step, rest_arm, rest, arm_rest}
use Rattle.hanging_sets.specs.Hanging.{words_in}
use Rattle.kept_texts.proofs.DefinedOnce.{found_again, no_library}
use Rattle.kept_texts.proofs.KeptPhrases.{K, NoVariable, NamesKept, Stays, AllStay, none_stay, expr_stays, function_entry, bumps_stay, assigns_stay, declares_stay, begins_stay, returns_stay, calls_stay, allocates_stay, args_stay, only_stays, printed_stay, init_stays, place_stays, value_stays, AmountStays, amount_stays}
use Rattle.kept_texts.proofs.Nameless.{valued_names, counted_valued, written_out}
use Rattle.kept_texts.proofs.TextPlaces.{IsFine, AreFine, lengths_valued, items_count, Place, library_found}

-- nothing is left, or one statement that declares or stays as it is
pub data Beginning (l : Left) : Type 0 where
  nothing_left : l.some ≡ [] → Beginning l
  declaration_left : {z : RawStatement} → l.some ≡ z ∷ [] → declares (out-RawStatement z) ≡ true → Beginning l
  plain_left : {z : RawStatement} → l.some ≡ z ∷ [] → l.is_plain ≡ true → Beginning l

-- which parts of a for stand where
pub data IsPartAt : Position → Stand → Type 0 where
  in_first : IsPartAt Position.first InFor
  in_step : IsPartAt Position.step InBlock

module _ (raw : RawProgram) (k : Kept ℕ) (rules : KeepsRules raw) (f : ℕ) where
  abbrev kept : Kept Bytes
  kept = K raw k

  abbrev pub keeps : ℕ → Bool
  keeps = k.statement

  abbrev words : KeptWords
  words = words_in k

  -- ---- what a function does

  abbrev pub ValueBack : Option Expr → Type 0
  ValueBack None = Unit {0}
  ValueBack (Some u) = k.gives f ≡ true

  abbrev pub GivesBack : Act → Type 0
  GivesBack (ReturnsAct a) = ValueBack a
  GivesBack _ = Unit {0}

  -- what a kept act names is kept, and the function of a return of a value gives its result still
  pub record ActKept (a : Act) : Type 0 where
    pub names : NamesKept raw k (act_names a)
    pub back : GivesBack a

  pub record CallKept (i : ℕ) (to : Target) (g : ℕ) (args : List Expr) : Type 0 where
    pub names : NamesKept raw k (call_names words i to args)
    pub callee : k.function g ≡ true
    pub arguments : (n : ℕ) → n < length args → k.argument i n ≡ k.parameter g n
    pub result : stores to ≡ true → k.result i ≡ true → k.gives g ≡ true

  abbrev pub GoodDoing : Doing → Type 0
  GoodDoing (Does i a) = keeps i ≡ true → ActKept a
  GoodDoing (CallsOf i to g args) = keeps i ≡ true → CallKept i to g args

  abbrev pub AllGood : List Doing → Type 0
  AllGood [] = Unit {0}
  AllGood (d ∷ ds) = GoodDoing d × AllGood ds

  pub good_first : (ds es : List Doing) → AllGood (ds ++ es) → AllGood ds
  good_first [] es h = tt
  good_first (d ∷ ds) es h = (h.0, good_first ds es h.1)

  pub good_second : (ds es : List Doing) → AllGood (ds ++ es) → AllGood es
  good_second [] es h = h
  good_second (d ∷ ds) es h = good_second ds es h.1

  pub good_parts : (x : Statement) (d : Doing) (ds : List Doing) → doings x ≡ d ∷ ds → AllGood (doings x) → GoodDoing d × AllGood ds
  good_parts x d ds is h = subst AllGood is h

  -- ---- trees

  abbrev pub rest_of : Statement → Rest
  rest_of = rest k.statement k.variable

  abbrev pub rest_of_arm : Arm → Rest
  rest_of_arm = arm_rest k.statement k.variable

  pub rest_is : (z : Statement-F Statement Arm) (x : Statement) → roll-Statement z ≡ x → rest_of x ≡ rest_step k.statement k.variable (map-Statement Statement Arm Rest Rest rest_of rest_of_arm z)
  rest_is z x is = ap rest_of (sym is) ∙ fold-roll-Statement Rest Rest (rest_step k.statement k.variable) (rest_arm k.statement k.variable) z

  pub arm_rest_is : (a : Arm) → rest_of_arm a ≡ record { stays = any_stays (map rest_of a.body); clear = all_clear (map rest_of a.body) }
  arm_rest_is a = fold-roll-Arm Rest Rest (rest_step k.statement k.variable) (rest_arm k.statement k.variable) (record { labels = a.labels; body = a.body })

  -- ---- what is left

  pub gone_met : (l : Left) → AreMet kept l.needs → l.some ≡ [] → AreMet kept (gone l)
  gone_met l h q = join_met kept l.needs (strays l.some) h (subst (λ (xs : List RawStatement). AreMet kept (strays xs)) (sym q) tt)

  -- what a statement without parts needs is met, and nothing is left of it where nothing stays
  pub record Simple (x : Statement) (l : Left) : Type 0 where
    pub needs : AreMet kept l.needs
    pub none : (rest_of x).stays ≡ false → l.some ≡ []

  plain_needs : (b : Bool) (y : RawStatement-F RawStatement RawArm) (scope : Scope) (part : Part) → (b ≡ true → NamesStay kept scope part) → AreMet kept (plain b y scope part).needs
  plain_needs true y scope part h = (h refl, tt)
  plain_needs false y scope part h = tt

  plain_none : (b : Bool) (y : RawStatement-F RawStatement RawArm) (scope : Scope) (part : Part) → b ≡ false → (plain b y scope part).some ≡ []
  plain_none true y scope part h = false_true (sym h)
  plain_none false y scope part h = refl

  with_needs : (b : Bool) (needs : List Need) (y : RawStatement-F RawStatement RawArm) (scope : Scope) (part : Part) → (b ≡ true → NamesStay kept scope part) → (b ≡ true → AreMet kept needs) → AreMet kept (plain_with b needs y scope part).needs
  with_needs true needs y scope part h g = (h refl, g refl)
  with_needs false needs y scope part h g = tt

  with_none : (b : Bool) (needs : List Need) (y : RawStatement-F RawStatement RawArm) (scope : Scope) (part : Part) → b ≡ false → (plain_with b needs y scope part).some ≡ []
  with_none true needs y scope part h = false_true (sym h)
  with_none false needs y scope part h = refl

  -- ---- what a for begins with

  pub beyond_met : (x : Left) → Beginning x → AreMet kept (beyond x.some)
  beyond_met x (nothing_left q) = subst (λ (xs : List RawStatement). AreMet kept (beyond xs)) (sym q) tt
  beyond_met x (declaration_left q r) = subst (λ (xs : List RawStatement). AreMet kept (beyond xs)) (sym q) tt
  beyond_met x (plain_left q r) = subst (λ (xs : List RawStatement). AreMet kept (beyond xs)) (sym q) tt

  pub alone_met : (l : ℕ) (x : Left) → AreMet kept x.needs → Beginning x → AreMet kept (left_alone l (Some x)).needs
  alone_met l x h (nothing_left q) = join_met kept x.needs _ h (subst (λ (u : Left). AreMet kept u.needs) (sym (ap (alone_all x.is_plain l) q)) tt)
  alone_met l x h (declaration_left {z} q r) =
      let is = ap (alone_all x.is_plain l) q ∙ ap (λ (b : Bool). alone_one b x.is_plain l z) r in join_met kept x.needs _ h (subst (λ (u : Left). AreMet kept u.needs) (sym is) tt)
  alone_met l x h (plain_left {z} q r) = by_form (declares (out-RawStatement z)) refl
    where
      one_needs : (b : Bool) → AreMet kept (alone_one b true l z).needs
      one_needs true = tt
      one_needs false = tt

      by_form : (b : Bool) → declares (out-RawStatement z) ≡ b → AreMet kept (left_alone l (Some x)).needs
      by_form b d =
          let is = ap (alone_all x.is_plain l) q ∙ ap₂ (λ (c p : Bool). alone_one c p l z) d r in join_met kept x.needs _ h (subst (λ (u : Left). AreMet kept u.needs) (sym is) (one_needs b))

  pub alone_none : (l : ℕ) (x : Left) → x.some ≡ [] → (left_alone l (Some x)).some ≡ []
  alone_none l x q = ap (λ (xs : List RawStatement). (alone_all x.is_plain l xs).some) q

  pub plain_begins : (b : Bool) (y : RawStatement-F RawStatement RawArm) (scope : Scope) (part : Part) → Beginning (plain b y scope part)
  plain_begins true y scope part = plain_left refl refl
  plain_begins false y scope part = nothing_left refl

  pub with_begins : (b : Bool) (needs : List Need) (y : RawStatement-F RawStatement RawArm) (scope : Scope) (part : Part) → Beginning (plain_with b needs y scope part)
  with_begins true needs y scope part = plain_left refl refl
  with_begins false needs y scope part = nothing_left refl

  declares_it : (l : ℕ) (v : RawVar) (i : RawInit) → declares (out-RawStatement (raw_s.Declare l v i)) ≡ true
  declares_it l v i = ap declares (ap out-RawStatement (sym (raw_s.rolls-Declare l v i)) ∙ out-roll-RawStatement (RawStatement-F.Declare l v i))

  declares_call : (l : ℕ) (v : RawVar) (g : Bytes) (args : List RawArg) → declares (out-RawStatement (raw_s.Call l (target.Declared v) g args)) ≡ true
  declares_call l v g args = ap declares (ap out-RawStatement (sym (raw_s.rolls-Call l (target.Declared v) g args)) ∙ out-roll-RawStatement (RawStatement-F.Call l (target.Declared v) g args))

  declares_heap : (l : ℕ) (v : RawVar) (cast : Option RawTypeName) (n : RawAmount) → declares (out-RawStatement (raw_s.Heap l (target.Declared v) cast n)) ≡ true
  declares_heap l v cast n = ap declares (ap out-RawStatement (sym (raw_s.rolls-Heap l (target.Declared v) cast n)) ∙ out-roll-RawStatement (RawStatement-F.Heap l (target.Declared v) cast n))

  -- ---- declarations

  declared_needs : (b c : Bool) (l : ℕ) (v : RawVar) (i : RawInit) (scope : Scope) → (c ≡ true → b ≡ true) → NamesStay kept scope (Declares InBlock v i) → (c ≡ true → NamesStay kept (with_variable raw v i scope) (Begins InBlock v i))
      → NamesStay kept scope (Declares InBlock (counted_var v i) init.None) → AreMet kept (count_needs (is_written v.shape) (item_count i)) → AreMet kept (declared raw b c l v i scope).needs
  declared_needs true true l v i scope both d g e n = (d, (g refl, tt))
  declared_needs true false l v i scope both d g e n = (e, n)
  declared_needs false true l v i scope both d g e n = false_true (both refl)
  declared_needs false false l v i scope both d g e n = tt

  declared_none : (b c : Bool) (l : ℕ) (v : RawVar) (i : RawInit) (scope : Scope) → b ≡ false → c ≡ false → (declared raw b c l v i scope).some ≡ []
  declared_none true c l v i scope p q = false_true (sym p)
  declared_none false true l v i scope p q = false_true (sym q)
  declared_none false false l v i scope p q = refl

  declared_begins : (b c : Bool) (l : ℕ) (v : RawVar) (i : RawInit) (scope : Scope) → Beginning (declared raw b c l v i scope)
  declared_begins true true l v i scope = declaration_left refl (declares_it l v i)
  declared_begins true false l v i scope = declaration_left refl (declares_it l (counted_var v i) init.None)
  declared_begins false true l v i scope = nothing_left refl
  declared_begins false false l v i scope = nothing_left refl

  pub declare_begins : (l : ℕ) (v : RawVar) (i : RawInit) (scope : Scope) → Beginning (declare_left kept raw l v i scope)
  declare_begins l v init.None scope = declared_begins (k.variable scope.variables) (k.variable scope.variables) l v init.None scope
  declare_begins l v (init.One a) scope = declared_begins (k.variable scope.variables) (keeps scope.statements) l v (init.One a) scope
  declare_begins l v (init.Items es) scope = declared_begins (k.variable scope.variables) (keeps scope.statements) l v (init.Items es) scope

  module _ (l : ℕ) (v : RawVar) (scope : Scope) (stand : Stand) where
    -- what is declared names nothing
    variable_named : (i : RawInit) → IsFine raw (phrase l scope (Declares stand v i)) → NamesStay kept scope (Declares InBlock v i)
    variable_named i fine = declares_stay raw k scope InBlock v i (none_stay raw k scope (lengths_in v.shape) (valued_names (lengths_in v.shape) (lengths_valued raw l scope stand v i fine)))

    counted_named : (i : RawInit) → IsFine raw (phrase l scope (Declares stand v i)) → NamesStay kept scope (Declares InBlock (counted_var v i) init.None)
    counted_named i fine =
        let w = counted_var v i in
        declares_stay raw k scope InBlock w init.None (none_stay raw k scope (lengths_in w.shape) (valued_names (lengths_in w.shape) (counted_valued (item_count i) v.shape (lengths_valued raw l scope stand v i fine))))

    written_counts : (n : ℕ) → is_written v.shape ≡ true → AreMet kept (count_needs (is_written v.shape) n)
    written_counts n h = subst (λ (b : Bool). AreMet kept (count_needs b n)) (sym h) tt

    -- a declaration that begins with something
    begun_simple : (i : RawInit) (j : Init) (x : Statement) → IsFine raw (phrase l scope (Declares stand v i)) → init_of raw (with_variable raw v i scope) i ≡ Some j
        → s.Declare (Some scope.statements) l scope.variables j ≡ x → AllGood (doings x) → AreMet kept (count_needs (is_written v.shape) (item_count i)) → Simple x (declared raw (k.variable scope.variables) (keeps scope.statements) l v i scope)
    begun_simple i j x fine at is good counted =
        let act = (good_parts x (Does scope.statements (BeginsAct scope.variables j)) [] (ap doings (sym is) ∙ doings-Declare (Some scope.statements) l scope.variables j) good).0 in
        let q = rest_is (Statement-F.Declare (Some scope.statements) l scope.variables j) x (s.rolls-Declare (Some scope.statements) l scope.variables j ∙ is) in
        record {
          needs = declared_needs (k.variable scope.variables) (keeps scope.statements) l v i scope (λ c. (act c).names scope.variables (or_left (scope.variables == scope.variables) _ (eq-eqb scope.variables scope.variables refl))) (variable_named i fine)
              (λ c. begins_stay raw k (with_variable raw v i scope) InBlock v i (init_stays raw k (with_variable raw v i scope) i j at (λ id n. (act c).names id (or_right (scope.variables == id) _ n)))) (counted_named i fine) counted;
          none = λ h.
              let b = or_parts (keeps scope.statements) (k.variable scope.variables) (sym (ap (λ (y : Rest). y.stays) q) ∙ h) in
              declared_none (k.variable scope.variables) (keeps scope.statements) l v i scope b.1 b.0;
        }

  pub declare_simple : (l : ℕ) (v : RawVar) (i : RawInit) (scope : Scope) (stand : Stand) (x : Statement) → AreFine raw (declaration raw l scope stand v i) → is_begun v i ≡ true
      → option_map (s.Declare (declaration_id i scope.statements) l scope.variables) (init_of raw (with_variable raw v i scope) i) ≡ Some x → AllGood (doings x) → Simple x (declare_left kept raw l v i scope)
  declare_simple l v init.None scope stand x fine syntax e good =
      let m = map_there (s.Declare None l scope.variables) (init_of raw (with_variable raw v init.None scope) init.None) x e in
      let q = rest_is (Statement-F.Declare None l scope.variables m.value) x (s.rolls-Declare None l scope.variables m.value ∙ m.same) in
      let written = written_out v.shape Extent.sized refl (and_parts _ _ syntax).1 in
      record {
        needs = declared_needs (k.variable scope.variables) (k.variable scope.variables) l v init.None scope (λ c. c) (variable_named l v scope stand init.None fine.0)
            (λ c. begins_stay raw k (with_variable raw v init.None scope) InBlock v init.None (none_stay raw k (with_variable raw v init.None scope) [] (λ y n. by_none n))) (counted_named l v scope stand init.None fine.0) (written_counts l v scope stand 0 written);
        none = λ h. let b = sym (ap (λ (y : Rest). y.stays) q) ∙ h in declared_none (k.variable scope.variables) (k.variable scope.variables) l v init.None scope b b;
      }
    where
      by_none : {y : Bytes} → NamedAmong [] y → ⊥
      by_none (a, (i, within, is), n) = absurd (omega (arith, within))
  declare_simple l v (init.One a) scope stand x fine syntax e good =
      let m = map_there (s.Declare (Some scope.statements) l scope.variables) (init_of raw (with_variable raw v (init.One a) scope) (init.One a)) x e in
      let shape = and_parts (is_declared v Extent.sized) (is_expr a) syntax in
      let written = written_out v.shape Extent.sized refl (and_parts _ _ shape.0).1 in
      begun_simple l v scope stand (init.One a) m.value x fine.0 m.there m.same good (written_counts l v scope stand 0 written)
  declare_simple l v (init.Items es) scope stand x fine syntax tree good =
      let m = map_there (s.Declare (Some scope.statements) l scope.variables) (init_of raw (with_variable raw v (init.Items es) scope) (init.Items es)) x tree in
      let some = (and_parts (is_there es) _ (and_parts (is_declared v Extent.listed) _ syntax).1).0 in
      begun_simple l v scope stand (init.Items es) m.value x fine.0 m.there m.same good (any_counts (is_written v.shape) (items_count raw l scope stand v es fine some))
    where
      any_counts : (b : Bool) → IsCount (length es) (e.Constant (decimal (length es))) → AreMet kept (count_needs b (length es))
      any_counts true h = tt
      any_counts false h = (h, tt)

  -- ---- acts that declare nothing

  act_of : (x : Statement) (i : ℕ) (a : Act) → doings x ≡ Does i a ∷ [] → AllGood (doings x) → keeps i ≡ true → ActKept a
  act_of x i a is good = (good_parts x (Does i a) [] is good).0

  kept_alone : (z : Statement-F Statement Arm) (x : Statement) (i : ℕ) → roll-Statement z ≡ x → rest_step k.statement k.variable (map-Statement Statement Arm Rest Rest rest_of rest_of_arm z) ≡ record { stays = keeps i; clear = true }
      → (rest_of x).stays ≡ false → keeps i ≡ false
  kept_alone z x i is r h = sym (ap (λ (y : Rest). y.stays) (rest_is z x is ∙ r)) ∙ h

  pub assign_simple : (l : ℕ) (a : RawExpr) (op : _) (b : RawExpr) (scope : Scope) (x : Statement) → both (λ (u w : Expr). s.Assign scope.statements l u op w) (expr_of raw scope a) (expr_of raw scope b) ≡ Some x → AllGood (doings x)
      → Simple x (plain (keeps scope.statements) (RawStatement-F.Assign l a op b) scope (Part.Assigns a op b))
  assign_simple l a op b scope x e good =
      let m = both_there (λ (u w : Expr). s.Assign scope.statements l u op w) (expr_of raw scope a) (expr_of raw scope b) x e in
      let act = act_of x scope.statements (Sets m.left op m.right) (ap doings (sym m.same) ∙ doings-Assign scope.statements l m.left op m.right) good in
      record {
        needs = plain_needs (keeps scope.statements) _ scope _
            (λ c. assigns_stay raw k scope a b op (expr_stays raw k scope a m.left m.left_there (λ id n. (act c).names id (or_left (names m.left id) _ n))) (expr_stays raw k scope b m.right m.right_there (λ id n. (act c).names id (or_right (names m.left id) _ n))));
        none = λ h. plain_none (keeps scope.statements) _ scope _ (kept_alone (Statement-F.Assign scope.statements l m.left op m.right) x scope.statements (s.rolls-Assign scope.statements l m.left op m.right ∙ m.same) refl h);
      }

  pub bump_simple : (l : ℕ) (a : RawExpr) (up before : Bool) (scope : Scope) (x : Statement) → option_map (λ (u : Expr). s.Bump scope.statements l u up before) (expr_of raw scope a) ≡ Some x → AllGood (doings x)
      → Simple x (plain (keeps scope.statements) (RawStatement-F.Bump l a up before) scope (Part.Bumps a))
  bump_simple l a up before scope x e good =
      let m = map_there (λ (u : Expr). s.Bump scope.statements l u up before) (expr_of raw scope a) x e in
      let act = act_of x scope.statements (BumpsAct m.value up) (ap doings (sym m.same) ∙ doings-Bump scope.statements l m.value up before) good in
      record {
        needs = plain_needs (keeps scope.statements) _ scope _ (λ c. bumps_stay raw k scope a (expr_stays raw k scope a m.value m.there (act c).names));
        none = λ h. plain_none (keeps scope.statements) _ scope _ (kept_alone (Statement-F.Bump scope.statements l m.value up before) x scope.statements (s.rolls-Bump scope.statements l m.value up before ∙ m.same) refl h);
      }

  -- a return of a value in this function
  returned : (scope : Scope) (a : Option RawExpr) (w : Option Expr) → Place raw f scope → optional (option_map (expr_of raw scope) a) ≡ Some w → ValueBack w → AreMet kept (return_needs (head_around raw scope) a)
  returned scope None w place at back = tt
  returned scope (Some u) w place at back = by_head (head_around raw scope) refl
    where
      value : k.gives f ≡ true
      value = let o = optional_there (expr_of raw scope u) w at in subst ValueBack (sym o.1.1) back

      by_head : (o : Option RawHead) → head_around raw scope ≡ o → AreMet kept (return_needs o (Some u))
      by_head None is = tt
      by_head (Some h) is =
          let there = found_again raw rules f h (sym (ap (option_and_then (slice_get (defined_functions raw))) place.0) ∙ is) in
          (ap (λ (o : Option ℕ). option_map_or k.gives o false) there ∙ value, tt)

  pub return_simple : (l : ℕ) (a : Option RawExpr) (scope : Scope) (x : Statement) → Place raw f scope → option_map (s.Return scope.statements l) (optional (option_map (expr_of raw scope) a)) ≡ Some x → AllGood (doings x)
      → Simple x (plain_with (keeps scope.statements) (return_needs (head_around raw scope) a) (RawStatement-F.Return l a) scope (Returns a))
  return_simple l a scope x place e good =
      let m = map_there (s.Return scope.statements l) (optional (option_map (expr_of raw scope) a)) x e in
      let act = act_of x scope.statements (ReturnsAct m.value) (ap doings (sym m.same) ∙ doings-Return scope.statements l m.value) good in
      record {
        needs = with_needs (keeps scope.statements) _ _ scope _ (λ c. returns_stay raw k scope a (value_stays raw k scope a m.value m.there (act c).names)) (λ c. returned scope a m.value place m.there (act c).back);
        none = λ h. with_none (keeps scope.statements) _ _ scope _ (kept_alone (Statement-F.Return scope.statements l m.value) x scope.statements (s.rolls-Return scope.statements l m.value ∙ m.same) refl h);
      }

  -- ---- allocations

  -- what a result is stored in is kept where the result is; it isn't where nothing stays
  abbrev TargetGone : Scope → RawTarget → Type 0
  TargetGone scope target.None = Unit {0}
  TargetGone scope (target.Place a) = Unit {0}
  TargetGone scope (target.Declared v) = k.variable scope.variables ≡ false

  target_gone : (scope : Scope) (to : RawTarget) (t : Target) → target_tree raw scope to ≡ Some t → target_stays k.statement k.variable t ≡ false → TargetGone scope to
  target_gone scope target.None t e h = tt
  target_gone scope (target.Place a) t e h = tt
  target_gone scope (target.Declared v) t e h = ap (target_stays k.statement k.variable) (some_same e) ∙ h

  -- a declaration of a target
  abbrev TargetFine : ℕ → Scope → Stand → RawTarget → Type 0
  TargetFine l scope stand target.None = Unit {0}
  TargetFine l scope stand (target.Place a) = Unit {0}
  TargetFine l scope stand (target.Declared v) = IsFine raw (phrase l scope (Declares stand v init.None))

  pub target_fine : (l : ℕ) (scope : Scope) (stand : Stand) (to : RawTarget) (qs : _) → AreFine raw (target_phrases raw l scope stand to ++ qs) → TargetFine l scope stand to
  target_fine l scope stand target.None qs fine = tt
  target_fine l scope stand (target.Place a) qs fine = tt
  target_fine l scope stand (target.Declared v) qs fine = fine.0

  -- what stores a result names is kept
  abbrev TargetKept : Scope → RawTarget → Type 0
  TargetKept scope target.None = Unit {0}
  TargetKept scope (target.Place a) = Stays raw k scope a
  TargetKept scope (target.Declared v) = k.variable scope.variables ≡ true

  target_kept : (scope : Scope) (to : RawTarget) (t : Target) → target_tree raw scope to ≡ Some t → NamesKept raw k (target_names t) → TargetKept scope to
  target_kept scope target.None t e h = tt
  target_kept scope (target.Place a) t e h = place_stays raw k scope a t e h
  target_kept scope (target.Declared v) t e h =
      h scope.variables (ap (λ (z : Target). target_names z scope.variables) (sym (some_same e)) ∙ eq-eqb scope.variables scope.variables refl)

  place_list : (scope : Scope) (a : RawExpr) → Stays raw k scope a → AllStay raw k scope (a ∷ [])
  place_list scope a h b (zero, within, is) = subst (Stays raw k scope) is h
  place_list scope a h b (suc i, within, is) = absurd (omega (arith, within))

  nothing_stays : (scope : Scope) → AllStay raw k scope []
  nothing_stays scope b (i, within, is) = absurd (omega (arith, within))

  heap_declared_needs : (b c : Bool) (l : ℕ) (v : RawVar) (cast : Option RawTypeName) (n : RawAmount) (scope : Scope) → (c ≡ true → b ≡ true) → NamesStay kept scope (Declares InBlock v init.None)
      → (c ≡ true → NamesStay kept (with_variable raw v init.None scope) (Allocates (target.Declared v) cast n)) → AreMet kept (heap_declared raw b c l v cast n scope).needs
  heap_declared_needs true true l v cast n scope both d g = (d, (g refl, tt))
  heap_declared_needs true false l v cast n scope both d g = (d, tt)
  heap_declared_needs false true l v cast n scope both d g = false_true (both refl)
  heap_declared_needs false false l v cast n scope both d g = tt

  heap_declared_none : (b c : Bool) (l : ℕ) (v : RawVar) (cast : Option RawTypeName) (n : RawAmount) (scope : Scope) → b ≡ false → c ≡ false → (heap_declared raw b c l v cast n scope).some ≡ []
  heap_declared_none true c l v cast n scope p q = false_true (sym p)
  heap_declared_none false true l v cast n scope p q = false_true (sym q)
  heap_declared_none false false l v cast n scope p q = refl

  heap_declared_begins : (b c : Bool) (l : ℕ) (v : RawVar) (cast : Option RawTypeName) (n : RawAmount) (scope : Scope) → Beginning (heap_declared raw b c l v cast n scope)
  heap_declared_begins true true l v cast n scope = declaration_left refl (declares_heap l v cast n)
  heap_declared_begins true false l v cast n scope = declaration_left refl (declares_it l v init.None)
  heap_declared_begins false true l v cast n scope = nothing_left refl
  heap_declared_begins false false l v cast n scope = nothing_left refl

  pub heap_begins : (l : ℕ) (to : RawTarget) (cast : Option RawTypeName) (n : RawAmount) (scope : Scope) → Beginning (heap_left kept raw l to cast n scope)
  heap_begins l target.None cast n scope = plain_begins (keeps scope.statements) _ scope _
  heap_begins l (target.Place a) cast n scope = plain_begins (keeps scope.statements) _ scope _
  heap_begins l (target.Declared v) cast n scope = heap_declared_begins (k.variable scope.variables) (keeps scope.statements) l v cast n scope

  -- what is told of a statement that stores a result, by its act
  record Told (scope : Scope) (to : RawTarget) (x : Statement) (A : Type 0) : Type 0 where
    kept_so : keeps scope.statements ≡ true → A
    gone_so : (rest_of x).stays ≡ false → (keeps scope.statements ≡ false) × TargetGone scope to

  stored_gone : (scope : Scope) (to : RawTarget) (t : Target) (z : Statement-F Statement Arm) (x : Statement) → target_tree raw scope to ≡ Some t → roll-Statement z ≡ x
      → rest_step k.statement k.variable (map-Statement Statement Arm Rest Rest rest_of rest_of_arm z) ≡ record { stays = keeps scope.statements || target_stays k.statement k.variable t; clear = true }
      → (rest_of x).stays ≡ false → (keeps scope.statements ≡ false) × TargetGone scope to
  stored_gone scope to t z x e is r h =
      let b = or_parts (keeps scope.statements) (target_stays k.statement k.variable t) (sym (ap (λ (y : Rest). y.stays) (rest_is z x is ∙ r)) ∙ h) in (b.0, target_gone scope to t e b.1)

  record HeapKept (scope : Scope) (to : RawTarget) (n : RawAmount) : Type 0 where
    target : TargetKept scope to
    amount : AmountStays raw k (with_target raw to scope) n

  heap_told : (l : ℕ) (to : RawTarget) (cast : Option RawTypeName) (n : RawAmount) (scope : Scope) (x : Statement) → heap_tree raw (with_target raw to scope) scope.statements l (target_tree raw scope to) cast n ≡ Some x → AllGood (doings x)
      → Told scope to x (HeapKept scope to n)
  heap_told l to cast n scope x e good =
      let inner = with_target raw to scope in
      let i = scope.statements in
      let a = then_there (λ (t : Target). option_and_then (λ (c : Option CType). option_map (s.Heap i l t c) (amount_tree raw inner n)) (ctype_if raw (option_map named_type cast))) (target_tree raw scope to) x e in
      let b = then_there (λ (c : Option CType). option_map (s.Heap i l a.value c) (amount_tree raw inner n)) (ctype_if raw (option_map named_type cast)) x a.same in
      let m = map_there (s.Heap i l a.value b.value) (amount_tree raw inner n) x b.same in
      let act = act_of x i (AllocatesAct a.value m.value) (ap doings (sym m.same) ∙ doings-Heap i l a.value b.value m.value) good in
      record {
        kept_so = λ c. record {
          target = target_kept scope to a.value a.there (λ id h. (act c).names id (or_left (target_names a.value id) _ h));
          amount = amount_stays raw k inner n m.value m.there (λ id h. (act c).names id (or_right (target_names a.value id) _ h));
        };
        gone_so = stored_gone scope to a.value (Statement-F.Heap i l a.value b.value m.value) x a.there (s.rolls-Heap i l a.value b.value m.value ∙ m.same) refl;
      }

  pub heap_simple : (l : ℕ) (to : RawTarget) (cast : Option RawTypeName) (n : RawAmount) (scope : Scope) (stand : Stand) (x : Statement) → TargetFine l scope stand to
      → heap_tree raw (with_target raw to scope) scope.statements l (target_tree raw scope to) cast n ≡ Some x → AllGood (doings x) → Simple x (heap_left kept raw l to cast n scope)
  heap_simple l to cast n scope stand x fine e good = by_target to fine (heap_told l to cast n scope x e good)
    where
      by_target : (to : RawTarget) → TargetFine l scope stand to → Told scope to x (HeapKept scope to n) → Simple x (heap_left kept raw l to cast n scope)
      by_target target.None fine told = record {
        needs = plain_needs (keeps scope.statements) _ scope _ (λ c. let h = told.kept_so c in allocates_stay raw k scope target.None cast n (nothing_stays scope) h.amount.count h.amount.measured);
        none = λ h. plain_none (keeps scope.statements) _ scope _ (told.gone_so h).0;
      }
      by_target (target.Place a) fine told = record {
        needs = plain_needs (keeps scope.statements) _ scope _ (λ c. let h = told.kept_so c in allocates_stay raw k scope (target.Place a) cast n (place_list scope a h.target) h.amount.count h.amount.measured);
        none = λ h. plain_none (keeps scope.statements) _ scope _ (told.gone_so h).0;
      }
      by_target (target.Declared v) fine told = record {
        needs = heap_declared_needs (k.variable scope.variables) (keeps scope.statements) l v cast n scope (λ c. (told.kept_so c).target) (variable_named l v scope stand init.None fine)
            (λ c. let h = told.kept_so c in allocates_stay raw k (with_variable raw v init.None scope) (target.Declared v) cast n (nothing_stays (with_variable raw v init.None scope)) h.amount.count h.amount.measured);
        none = λ h. let g = told.gone_so h in heap_declared_none (k.variable scope.variables) (keeps scope.statements) l v cast n scope g.1 g.0;
      }

  -- ---- calls

  -- the result of a call is kept
  abbrev IsKeptResult : Bytes → ℕ → Type 0
  IsKeptResult g i = result_kept (is_library_function g) (k.result i) ≡ true

  -- what a kept result needs
  abbrev ResultNeeds : Scope → RawTarget → Bytes → Type 0
  ResultNeeds scope target.None g = Unit {0}
  ResultNeeds scope (target.Place a) g = IsKeptResult g scope.statements → Stays raw k scope a × AreMet kept (gives (is_library_function g) g)
  ResultNeeds scope (target.Declared v) g = IsKeptResult g scope.statements → (k.variable scope.variables ≡ true) × AreMet kept (gives (is_library_function g) g)

  record CallNeeds (scope : Scope) (to : RawTarget) (g : Bytes) (args : List RawArg) : Type 0 where
    args_kept : AllStay raw k (with_target raw to scope) (arg_exprs (kept_args kept g scope.statements args))
    entry : EntryStays kept (found g (with_target raw to scope).names)
    function : kept.function g ≡ true
    passed : AreMet kept (passes (is_library_function g) g args scope.statements)
    result : ResultNeeds scope to g

  module _ (l : ℕ) (to : RawTarget) (g : Bytes) (args : List RawArg) (scope : Scope) (stand : Stand) (place : Place raw f (with_target raw to scope)) (fine : KeepsAll raw (phrase l (with_target raw to scope) (Calls stand to g args))) where
    abbrev inner : Scope
    inner = with_target raw to scope

    -- a function of the library keeps all its arguments, and its result
    library_args : is_library_function g ≡ true → AllStay raw k inner (arg_exprs args) → AllStay raw k inner (arg_exprs (kept_args kept g scope.statements args))
    library_args lib h = subst (λ (b : Bool). AllStay raw k inner (arg_exprs (if b then args else chosen (k.argument scope.statements) 0 args))) (sym lib) h

    library_passed : is_library_function g ≡ true → AreMet kept (passes (is_library_function g) g args scope.statements)
    library_passed lib = subst (λ (b : Bool). AreMet kept (passes b g args scope.statements)) (sym lib) tt

    library_gives : is_library_function g ≡ true → AreMet kept (gives (is_library_function g) g)
    library_gives lib = subst (λ (b : Bool). AreMet kept (gives b g)) (sym lib) tt

    library_function : is_library_function g ≡ true → kept.function g ≡ true
    library_function lib = ap (λ (o : Option ℕ). option_map_or k.function o true) (no_library raw rules g lib)

    library_needs : is_library_function g ≡ true → AllStay raw k inner (arg_exprs args) → ResultNeeds scope to g → CallNeeds scope to g args
    library_needs lib h r = record {
      args_kept = library_args lib h;
      entry = function_entry raw k inner g (library_found raw f inner g place lib) (library_function lib);
      function = library_function lib;
      passed = library_passed lib;
      result = r;
    }

    -- putchar, printf and free give no result
    no_target : {A : Type 0} → is_among without_result g ≡ true → is_stored to ≡ true → A
    no_target q h = absurd (fine 17 (Breaks.result (MisusesResult.library (λ e. false_true (sym (ap is_stored e) ∙ h)) q)))

    unstored : is_among without_result g ≡ true → ResultNeeds scope to g × TargetGone scope to
    unstored q = by_target to (λ h. no_target q h)
      where
        by_target : (to : RawTarget) → (is_stored to ≡ true → ⊥) → ResultNeeds scope to g × TargetGone scope to
        by_target target.None h = (tt, tt)
        by_target (target.Place a) h = absurd (h refl)
        by_target (target.Declared v) h = absurd (h refl)

    library_result : is_library_function g ≡ true → TargetKept scope to → ResultNeeds scope to g
    library_result lib h = by_target to h
      where
        by_target : (to : RawTarget) → TargetKept scope to → ResultNeeds scope to g
        by_target target.None h = tt
        by_target (target.Place a) h = λ q. (h, library_gives lib)
        by_target (target.Declared v) h = λ q. (h, library_gives lib)

    abbrev i : ℕ
    i = scope.statements

    quiet : (z : Statement-F Statement Arm) (x : Statement) → is_among without_result g ≡ true → roll-Statement z ≡ x → rest_step k.statement k.variable (map-Statement Statement Arm Rest Rest rest_of rest_of_arm z) ≡ record { stays = keeps i; clear = true }
        → (rest_of x).stays ≡ false → (keeps i ≡ false) × TargetGone scope to
    quiet z x q is r h = (kept_alone z x i is r h, (unstored q).1)

    fetched : bytes_eq g (codes "getchar") ≡ true → (x : Statement) → option_map (s.Fetch i l) (target_tree raw scope to) ≡ Some x → AllGood (doings x) → Told scope to x (CallNeeds scope to g args)
    fetched name x e good =
        let m = map_there (s.Fetch i l) (target_tree raw scope to) x e in
        let act = act_of x i (Fetches m.value) (ap doings (sym m.same) ∙ doings-Fetch i l m.value) good in
        let lib : is_library_function g ≡ true = or_left (bytes_eq g (codes "getchar")) _ name in
        record {
          kept_so = λ c. library_needs lib (no_args args refl) (library_result lib (target_kept scope to m.value m.there (act c).names));
          gone_so = stored_gone scope to m.value (Statement-F.Fetch i l m.value) x m.there (s.rolls-Fetch i l m.value ∙ m.same) refl;
        }
      where
        -- it has no argument
        no_args : (as_ : List RawArg) → args ≡ as_ → AllStay raw k inner (arg_exprs as_)
        no_args [] is = nothing_stays inner
        no_args (a ∷ rest) is =
            absurd (fine 21 (Breaks.library (subst (λ (w : Bytes). MisusesLibrary raw inner (Calls stand to w args)) (sym (same_bytes g (codes "getchar") name)) (MisusesLibrary.getchar_count (λ none. no_cons (sym is ∙ none))))))
          where
            no_cons : a ∷ rest ≡ [] → ⊥
            no_cons h = no_list h

    written : bytes_eq g (codes "putchar") ≡ true → (x : Statement) → option_map (s.Write i l) (only_tree raw inner args) ≡ Some x → AllGood (doings x) → Told scope to x (CallNeeds scope to g args)
    written name x e good =
        let m = map_there (s.Write i l) (only_tree raw inner args) x e in
        let act = act_of x i (Writes m.value) (ap doings (sym m.same) ∙ doings-Write i l m.value) good in
        let none : is_among without_result g ≡ true = or_left (bytes_eq g (codes "putchar")) _ name in
        let lib : is_library_function g ≡ true = or_right (bytes_eq g (codes "getchar")) _ none in
        record {
          kept_so = λ c. library_needs lib (only_stays raw k inner args m.value m.there (act c).names) (unstored none).0;
          gone_so = quiet (Statement-F.Write i l m.value) x none (s.rolls-Write i l m.value ∙ m.same) refl;
        }

    printed : bytes_eq g (codes "printf") ≡ true → (x : Statement) → print_tree raw inner i l args ≡ Some x → AllGood (doings x) → Told scope to x (CallNeeds scope to g args)
    printed name x e good =
        let a = then_there (λ (text : Bytes). option_map (s.Print i l text) (args_tree raw inner (later_args args))) (format_in args) x e in
        let m = map_there (s.Print i l a.value) (args_tree raw inner (later_args args)) x a.same in
        let act = act_of x i (Prints a.value m.value) (ap doings (sym m.same) ∙ doings-Print i l a.value m.value) good in
        let none : is_among without_result g ≡ true = or_right (bytes_eq g (codes "putchar")) _ (or_left (bytes_eq g (codes "printf")) _ name) in
        let lib : is_library_function g ≡ true = or_right (bytes_eq g (codes "getchar")) _ none in
        record {
          kept_so = λ c. library_needs lib (printed_stay raw k inner args a.value m.value a.there m.there (act c).names) (unstored none).0;
          gone_so = quiet (Statement-F.Print i l a.value m.value) x none (s.rolls-Print i l a.value m.value ∙ m.same) refl;
        }

    released : bytes_eq g (codes "free") ≡ true → (x : Statement) → option_map (s.Release i l) (only_tree raw inner args) ≡ Some x → AllGood (doings x) → Told scope to x (CallNeeds scope to g args)
    released name x e good =
        let m = map_there (s.Release i l) (only_tree raw inner args) x e in
        let act = act_of x i (Frees m.value) (ap doings (sym m.same) ∙ doings-Release i l m.value) good in
        let none : is_among without_result g ≡ true = or_right (bytes_eq g (codes "putchar")) _ (or_right (bytes_eq g (codes "printf")) _ (or_left (bytes_eq g (codes "free")) _ name)) in
        let lib : is_library_function g ≡ true = or_right (bytes_eq g (codes "getchar")) _ none in
        record {
          kept_so = λ c. library_needs lib (only_stays raw k inner args m.value m.there (act c).names) (unstored none).0;
          gone_so = quiet (Statement-F.Release i l m.value) x none (s.rolls-Release i l m.value ∙ m.same) refl;
        }

    -- a function of the text
    module _ (own : is_library_function g ≡ false) where
      own_entry : NoVariable (found g inner.names)
      own_entry = by_found (found g inner.names) refl
        where
          by_meaning : (y : Entry) (m : Meaning) → y.meaning ≡ m → found g inner.names ≡ Some y → y.meaning ≡ Meaning.Function
          by_meaning y (Meaning.Variable id t) is at =
              absurd (fine 1 (Breaks.undeclared (UsesUndeclared.called own (λ same. no_variable (sym (ap (option_map (λ (z : Entry). z.meaning)) at ∙ ap Some is) ∙ same)))))
            where
              no_variable : ◌≡◌ {A = Option Meaning} (Some (Meaning.Variable id t)) (Some Meaning.Function) → ⊥
              no_variable h = cc
          by_meaning y Meaning.Function is at = is

          by_found : (o : Option Entry) → found g inner.names ≡ o → NoVariable o
          by_found None at = tt
          by_found (Some y) at = by_meaning y y.meaning refl at

      args_long : (es : List Expr) → args_tree raw inner args ≡ Some es → length es ≡ length args
      args_long es e = many args es e
        where
          many : (as_ : List RawArg) (us : List Expr) → collected (map (arg_tree raw inner) as_) ≡ Some us → length us ≡ length as_
          many [] us h = ap length (sym (some_same h))
          many (a ∷ rest) us h = let m = more_there (arg_tree raw inner a) (map (arg_tree raw inner) rest) us h in ap length (sym m.same) ∙ ap suc (many rest m.rest m.rest_there)

      invoked : (x : Statement) → invoke_tree raw inner i l (target_tree raw scope to) g args ≡ Some x → AllGood (doings x) → Told scope to x (CallNeeds scope to g args)
      invoked x e good =
          let a = then_there (λ (t : Target). both (s.Invoke i l t) (function_id raw g) (args_tree raw inner args)) (target_tree raw scope to) x e in
          let m = both_there (s.Invoke i l a.value) (function_id raw g) (args_tree raw inner args) x a.same in
          let call = (good_parts x (CallsOf i a.value m.left m.right) [] (ap doings (sym m.same) ∙ doings-Invoke i l a.value m.left m.right) good).0 in
          record {
            kept_so = λ c. needed a.value m.left m.right a.there m.left_there m.right_there (call c);
            gone_so = stored_gone scope to a.value (Statement-F.Invoke i l a.value m.left m.right) x a.there (s.rolls-Invoke i l a.value m.left m.right ∙ m.same) refl;
          }
        where
          needed : (t : Target) (n : ℕ) (es : List Expr) → target_tree raw scope to ≡ Some t → function_id raw g ≡ Some n → args_tree raw inner args ≡ Some es → CallKept i t n es → CallNeeds scope to g args
          needed t n es stored number tree c =
              let function : kept.function g ≡ true = ap (λ (o : Option ℕ). option_map_or k.function o true) number ∙ c.callee in
              record {
                args_kept = subst (λ (b : Bool). AllStay raw k inner (arg_exprs (if b then args else chosen (k.argument i) 0 args))) (sym own)
                    (args_stay raw k inner (chosen (k.argument i) 0 args) (chosen (k.argument i) 0 es) (ap collected (chosen_map (arg_tree raw inner) (k.argument i) 0 args) ∙ chosen_collected (k.argument i) 0 (map (arg_tree raw inner) args) es tree)
                    (λ id h. c.names id (or_right (k.result i && target_names t id) _ h)));
                entry = function_entry raw k inner g own_entry function;
                function = function;
                passed = subst (λ (b : Bool). AreMet kept (passes b g args i)) (sym own) ((λ j within. let long = args_long es tree in c.arguments j (omega (arith, within, long)) ∙ sym (ap (λ (o : Option ℕ). option_map_or (λ (m : ℕ). k.parameter m j) o false) number)), tt);
                result = by_target to stored;
              }
            where
              result_of : IsKeptResult g i → k.result i ≡ true
              result_of h = sym (ap (λ (b : Bool). result_kept b (k.result i)) own) ∙ h

              given : stores t ≡ true → IsKeptResult g i → AreMet kept (gives (is_library_function g) g)
              given st h = subst (λ (b : Bool). AreMet kept (gives b g)) (sym own) (ap (λ (o : Option ℕ). option_map_or k.gives o false) number ∙ c.result st (result_of h), tt)

              named : (h : IsKeptResult g i) → NamesKept raw k (target_names t)
              named h id n = c.names id (or_left (k.result i && target_names t id) _ (and_from _ _ (result_of h) n))

              by_target : (to : RawTarget) → target_tree raw scope to ≡ Some t → ResultNeeds scope to g
              by_target target.None at = tt
              by_target (target.Place a) at = λ h.
                  let m = map_there to_place.Place (expr_of raw scope a) t at in (place_stays raw k scope a t at (named h), given (ap stores (sym m.same)) h)
              by_target (target.Declared v) at = λ h. (target_kept scope (target.Declared v) t at (named h), given (ap stores (sym (some_same at))) h)

    -- of the library, or of the text
    call_told : (x : Statement) → call_tree raw inner i l (target_tree raw scope to) g args ≡ Some x → AllGood (doings x) → Told scope to x (CallNeeds scope to g args)
    call_told x e good =
        by_name (bytes_eq g (codes "getchar")) refl (bytes_eq g (codes "putchar")) refl (bytes_eq g (codes "printf")) refl (bytes_eq g (codes "free")) refl e
      where
        by_name : (a : Bool) → bytes_eq g (codes "getchar") ≡ a → (b : Bool) → bytes_eq g (codes "putchar") ≡ b → (c : Bool) → bytes_eq g (codes "printf") ≡ c → (d : Bool) → bytes_eq g (codes "free") ≡ d
            → (if a then option_map (s.Fetch i l) (target_tree raw scope to) else (if b then option_map (s.Write i l) (only_tree raw inner args) else (if c then print_tree raw inner i l args
            else (if d then option_map (s.Release i l) (only_tree raw inner args) else invoke_tree raw inner i l (target_tree raw scope to) g args)))) ≡ Some x → Told scope to x (CallNeeds scope to g args)
        by_name true p b q c r d u at = fetched p x at good
        by_name false p true q c r d u at = written q x at good
        by_name false p false q true r d u at = printed r x at good
        by_name false p false q false r true u at = released u x at good
        by_name false p false q false r false u at =
            invoked (none_of (bytes_eq g (codes "getchar")) (bytes_eq g (codes "putchar")) (bytes_eq g (codes "printf")) (bytes_eq g (codes "free")) p q r u) x at good

    -- ---- what is left of a call

    abbrev left_args : List RawArg
    left_args = kept_args kept g i args

    abbrev asked : List Need
    asked = passes (is_library_function g) g args i

    -- the call without its result
    lost_names : CallNeeds scope to g args → NamesStay kept inner (Calls InBlock target.None g left_args)
    lost_names h = calls_stay raw k inner target.None g left_args (nothing_stays inner) h.args_kept h.entry h.function

    call_simple_none : to ≡ target.None → inner ≡ scope → (x : Statement) → Told scope to x (CallNeeds scope to g args) → Simple x (call_left kept raw l target.None g args scope)
    call_simple_none is at x told = record {
      needs = with_needs (keeps i) asked (RawStatement-F.Call l target.None g left_args) scope (Calls InBlock target.None g left_args) (λ c. subst (λ (z : Scope). NamesStay kept z (Calls InBlock target.None g left_args)) at (lost_names (told.kept_so c))) (λ c. (told.kept_so c).passed);
      none = λ h. with_none (keeps i) asked (RawStatement-F.Call l target.None g left_args) scope (Calls InBlock target.None g left_args) (told.gone_so h).0;
    }

  placed_needs : (r b : Bool) (needs results : List Need) (l : ℕ) (a : RawExpr) (g : Bytes) (args : List RawArg) (scope : Scope) → (b ≡ true → AreMet kept needs) → (b ≡ true → r ≡ true → NamesStay kept scope (Calls InBlock (target.Place a) g args) × AreMet kept results)
      → (b ≡ true → NamesStay kept scope (Calls InBlock target.None g args)) → AreMet kept (call_placed raw r b needs results l a g args scope).needs
  placed_needs true true needs results l a g args scope n r lost = ((r refl refl).0, join_met kept needs results (n refl) (r refl refl).1)
  placed_needs true false needs results l a g args scope n r lost = tt
  placed_needs false true needs results l a g args scope n r lost = (lost refl, n refl)
  placed_needs false false needs results l a g args scope n r lost = tt

  placed_none : (r b : Bool) (needs results : List Need) (l : ℕ) (a : RawExpr) (g : Bytes) (args : List RawArg) (scope : Scope) → b ≡ false → (call_placed raw r b needs results l a g args scope).some ≡ []
  placed_none r true needs results l a g args scope h = false_true (sym h)
  placed_none true false needs results l a g args scope h = refl
  placed_none false false needs results l a g args scope h = refl

  placed_begins : (r b : Bool) (needs results : List Need) (l : ℕ) (a : RawExpr) (g : Bytes) (args : List RawArg) (scope : Scope) → Beginning (call_placed raw r b needs results l a g args scope)
  placed_begins true true needs results l a g args scope = plain_left refl refl
  placed_begins true false needs results l a g args scope = nothing_left refl
  placed_begins false true needs results l a g args scope = plain_left refl refl
  placed_begins false false needs results l a g args scope = nothing_left refl

  with_call_needs : (v b r : Bool) (needs results : List Need) (l : ℕ) (var : RawVar) (g : Bytes) (args : List RawArg) (scope : Scope) → (b ≡ true → AreMet kept needs)
      → (b ≡ true → r ≡ true → (v ≡ true) × NamesStay kept (with_variable raw var init.None scope) (Calls InBlock (target.Declared var) g args) × AreMet kept results) → NamesStay kept scope (Declares InBlock var init.None)
      → (b ≡ true → NamesStay kept (with_variable raw var init.None scope) (Calls InBlock target.None g args)) → AreMet kept (call_declared raw v b r needs results l var g args scope).needs
  with_call_needs true true true needs results l var g args scope n r d lost = let w = r refl refl in (d, (w.1, join_met kept needs results (n refl) w.2))
  with_call_needs true true false needs results l var g args scope n r d lost = (d, (lost refl, n refl))
  with_call_needs false true true needs results l var g args scope n r d lost = false_true (r refl refl).0
  with_call_needs false true false needs results l var g args scope n r d lost = (lost refl, n refl)
  with_call_needs true false r needs results l var g args scope n q d lost = (d, tt)
  with_call_needs false false r needs results l var g args scope n q d lost = tt

  with_call_none : (v b r : Bool) (needs results : List Need) (l : ℕ) (var : RawVar) (g : Bytes) (args : List RawArg) (scope : Scope) → v ≡ false → b ≡ false → (call_declared raw v b r needs results l var g args scope).some ≡ []
  with_call_none true b r needs results l var g args scope p q = false_true (sym p)
  with_call_none false true r needs results l var g args scope p q = false_true (sym q)
  with_call_none false false r needs results l var g args scope p q = refl

  with_call_begins : (v b r : Bool) (needs results : List Need) (l : ℕ) (var : RawVar) (g : Bytes) (args : List RawArg) (scope : Scope) → r ≡ true → Beginning (call_declared raw v b r needs results l var g args scope)
  with_call_begins v b false needs results l var g args scope h = false_true h
  with_call_begins true true true needs results l var g args scope h = declaration_left refl (declares_call l var g args)
  with_call_begins false true true needs results l var g args scope h = nothing_left refl
  with_call_begins true false true needs results l var g args scope h = declaration_left refl (declares_it l var init.None)
  with_call_begins false false true needs results l var g args scope h = nothing_left refl

  -- a call has what it needs
  pub call_simple : (l : ℕ) (to : RawTarget) (g : Bytes) (args : List RawArg) (scope : Scope) (stand : Stand) (x : Statement) → TargetFine l scope stand to → Place raw f (with_target raw to scope)
      → KeepsAll raw (phrase l (with_target raw to scope) (Calls stand to g args)) → call_tree raw (with_target raw to scope) scope.statements l (target_tree raw scope to) g args ≡ Some x → AllGood (doings x) → Simple x (call_left kept raw l to g args scope)
  call_simple l target.None g args scope stand x fine place keep e good = call_simple_none l target.None g args scope stand place keep refl refl x (call_told l target.None g args scope stand place keep x e good)
  call_simple l (target.Place a) g args scope stand x fine place keep e good =
      let told = call_told l (target.Place a) g args scope stand place keep x e good in
      let some = kept_args kept g scope.statements args in
      let r = result_kept (is_library_function g) (k.result scope.statements) in
      record {
        needs = placed_needs r (keeps scope.statements) (passes (is_library_function g) g args scope.statements) (gives (is_library_function g) g) l a g some scope (λ c. (told.kept_so c).passed)
            (λ c q. let h = told.kept_so c in (calls_stay raw k scope (target.Place a) g some (place_list scope a (h.result q).0) h.args_kept h.entry h.function, (h.result q).1)) (λ c. lost_names l (target.Place a) g args scope stand place keep (told.kept_so c));
        none = λ h. placed_none r (keeps scope.statements) (passes (is_library_function g) g args scope.statements) (gives (is_library_function g) g) l a g some scope (told.gone_so h).0;
      }
  call_simple l (target.Declared v) g args scope stand x fine place keep e good =
      let told = call_told l (target.Declared v) g args scope stand place keep x e good in
      let some = kept_args kept g scope.statements args in
      let r = result_kept (is_library_function g) (k.result scope.statements) in
      let inner = with_variable raw v init.None scope in
      record {
        needs = with_call_needs (k.variable scope.variables) (keeps scope.statements) r (passes (is_library_function g) g args scope.statements) (gives (is_library_function g) g) l v g some scope (λ c. (told.kept_so c).passed)
            (λ c q. let h = told.kept_so c in ((h.result q).0, calls_stay raw k inner (target.Declared v) g some (nothing_stays inner) h.args_kept h.entry h.function, (h.result q).1))
            (variable_named l v scope stand init.None fine) (λ c. lost_names l (target.Declared v) g args scope stand place keep (told.kept_so c));
        none = λ h.
            let w = told.gone_so h in
            with_call_none (k.variable scope.variables) (keeps scope.statements) r (passes (is_library_function g) g args scope.statements) (gives (is_library_function g) g) l v g some scope w.1 w.0;
      }

  -- and as a part of a for it is one statement or none
  pub call_begins : (l : ℕ) (to : RawTarget) (g : Bytes) (args : List RawArg) (scope : Scope) (stand : Stand) (p : Position) → IsPartAt p stand → is_target p to ≡ true
      → KeepsAll raw (phrase l (with_target raw to scope) (Calls stand to g args)) → Beginning (call_left kept raw l to g args scope)
  call_begins l target.None g args scope stand p at syntax keep = with_begins (keeps scope.statements) _ _ scope _
  call_begins l (target.Place a) g args scope stand p at syntax keep = placed_begins (result_kept (is_library_function g) (k.result scope.statements)) (keeps scope.statements) _ _ l a g _ scope
  call_begins l (target.Declared v) g args scope stand p in_first syntax keep =
      with_call_begins (k.variable scope.variables) (keeps scope.statements) (result_kept (is_library_function g) (k.result scope.statements)) _ _ l v g _ scope (by_library (is_library_function g) refl)
    where
      by_library : (b : Bool) → is_library_function g ≡ b → result_kept (is_library_function g) (k.result scope.statements) ≡ true
      by_library true q = ap (λ (c : Bool). result_kept c (k.result scope.statements)) q
      by_library false q = absurd (keep 23 (Breaks.misplaced (MisplacesDeclaration.in_for q)))
  call_begins l (target.Declared v) g args scope stand p in_step syntax keep = false_true syntax
