-- What the phrases of a text name is kept, where what their trees name is.
use Rattle.std.proofs.Common.{◌≡◌, ℕ, zero, suc, Bool, true, false, List, [], ◌∷◌, ◌++◌, map, Option, Some, None, option_map, refl, sym, ap, subst, ◌∙◌, arith, inl, inr}
use Rattle.std.specs.Prelude.{Contains, bytes_eq, if◌then◌else◌}
use Rattle.std.proofs.lemmas.Bool.{or_left, or_right, eq-eqb}
use Rattle.std.proofs.lemmas.List.Elements.{Contains-append_cases}
use Rattle.c_tree.specs.declared.expr.Expr.{Expr}
use Rattle.c_tree.specs.declared.program.Init.{Init}
use Rattle.c_tree.specs.declared.program.Init.TheVariants as begins
use Rattle.c_tree.specs.declared.statement.Amount.{Amount}
use Rattle.c_tree.specs.declared.statement.Amount.TheVariants as quantity
use Rattle.c_tree.specs.declared.statement.Size.{Size}
use Rattle.c_tree.specs.declared.statement.Size.TheVariants as measure
use Rattle.c_tree.specs.declared.statement.Target.{Target}
use Rattle.c_tree.specs.declared.statement.Target.TheVariants as to_place
use Rattle.c_tree.specs.declared.raw.expr.RawExpr.{RawExpr}
use Rattle.c_tree.specs.declared.raw.expr.RawVar.{RawVar}
use Rattle.c_tree.specs.declared.raw.program.RawInit.{RawInit}
use Rattle.c_tree.specs.declared.raw.program.RawInit.TheVariants as init
use Rattle.c_tree.specs.declared.raw.program.RawMember.{RawMember}
use Rattle.c_tree.specs.declared.raw.program.RawProgram.{RawProgram}
use Rattle.c_tree.specs.declared.raw.statement.RawAmount.{RawAmount}
use Rattle.c_tree.specs.declared.raw.statement.RawAmount.TheVariants as amount
use Rattle.c_tree.specs.declared.raw.statement.RawArg.{RawArg}
use Rattle.c_tree.specs.declared.raw.statement.RawArg.TheVariants as arg
use Rattle.c_tree.specs.declared.raw.statement.RawLabel.{RawLabel}
use Rattle.c_tree.specs.declared.raw.statement.RawSize.{RawSize}
use Rattle.c_tree.specs.declared.raw.statement.RawSize.TheVariants as size
use Rattle.c_tree.specs.declared.raw.statement.RawTarget.{RawTarget}
use Rattle.c_tree.specs.declared.raw.statement.RawTarget.TheVariants as target
use Rattle.c_tree.specs.declared.raw.statement.RawTypeName.{RawTypeName}
use Rattle.c_language.specs.Words.{Bytes}
use Rattle.c_language.specs.CallRules.{format_in, later_args, only_arg}
use Rattle.c_language.specs.Names.{names, any_names, init_names, target_names, size_names, amount_names, value_names}
use Rattle.c_language.specs.Phrases.{Stand, InBlock, HasMember, Declares, Begins, Assigns, Bumps, Calls, Allocates, Tests, Switches, Returns}
use Rattle.c_language.specs.ProgramOf.{optional, variable_number, expr_of, exprs_of, init_of, target_tree, arg_tree, args_tree, only_tree, size_tree, amount_tree}
use Rattle.c_language.specs.Scopes.{Scope, Meaning, Entry, meaning_in}
use Rattle.c_language.specs.Uses.{holds, lengths_in, init_exprs, target_exprs, arg_exprs, counts, sizes, cases, if_given}
use Rattle.c_language.proofs.Lists.{same_bytes}
use Rattle.c_language.proofs.Options.{none_there, some_same, optional_there, map_there, then_there, more_there}
use Rattle.c_scope_laws.specs.Agreement.{NamedIn, Names, NamesFunction}
use Rattle.c_scope_laws.specs.Thinning.{name_stays, found, EntryStays, NamesStay, LabelsStay}
use Rattle.c_scope_laws.proofs.NamedTrees.{kept_by_tree}
use Rattle.c_scope_laws.proofs.Trees.{in_one}
use Rattle.projection.specs.Kept.{Kept}
use Rattle.kept_texts.specs.KeptNames.{by_names}
use Rattle.kept_texts.proofs.Nameless.{NoNames}

-- ---- what is found

pub found_named : (x : Bytes) (es : List Entry) (y : Entry) → found x es ≡ Some y → x ≡ y.name
found_named x [] y h = none_there h
found_named x (z ∷ es) y h = by_name (bytes_eq x z.name) refl h (λ q. found_named x es y q)
  where
    by_name : (b : Bool) → bytes_eq x z.name ≡ b → (if b then Some z else found x es) ≡ Some y → (found x es ≡ Some y → x ≡ y.name) → x ≡ y.name
    by_name true same q later = same_bytes x z.name same ∙ ap (λ (u : Entry). u.name) (some_same q)
    by_name false other q later = later q

-- it is no variable
abbrev pub NoVariable : Option Entry → Type 0
NoVariable None = Unit {0}
NoVariable (Some y) = y.meaning ≡ Meaning.Function

-- ---- arguments

only_is : (args : List RawArg) (a : RawExpr) → only_arg args ≡ Some a → arg_exprs args ≡ a ∷ []
only_is [] a h = none_there h
only_is (arg.Value b ∷ []) a h = ap (λ (z : RawExpr). z ∷ []) (some_same h)
only_is (arg.Literal text ∷ []) a h = none_there h
only_is (b ∷ (c ∷ rest)) a h = none_there h

later_is : (args : List RawArg) (text : Bytes) → format_in args ≡ Some text → arg_exprs args ≡ arg_exprs (later_args args)
later_is [] text h = none_there h
later_is (arg.Value b ∷ rest) text h = none_there h
later_is (arg.Literal word ∷ rest) text h = refl

in_nothing : {A B : Type 0} (a : A) → Contains [] a → B
in_nothing a (i, within, is) = absurd (omega (arith, within))

module _ (raw : RawProgram) (k : Kept ℕ) where
  abbrev pub K : Kept Bytes
  K = by_names k raw

  -- the variables that these words name are kept
  abbrev pub NamesKept : (ℕ → Bool) → Type 0
  NamesKept f = (id : ℕ) → f id ≡ true → k.variable id ≡ true

  -- all that an expression names is kept
  abbrev pub Stays : Scope → RawExpr → Type 0
  Stays scope a = (x : Bytes) → NamedIn a x → EntryStays K (found x scope.names)

  abbrev pub AllStay : Scope → List RawExpr → Type 0
  AllStay scope all = (a : RawExpr) → Contains all a → Stays scope a

  pub expr_stays : (scope : Scope) (a : RawExpr) (w : Expr) → expr_of raw scope a ≡ Some w → NamesKept (names w) → Stays scope a
  expr_stays scope a w at h x n = kept_by_tree K raw scope a w at h x n

  pub none_stay : (scope : Scope) (all : List RawExpr) → NoNames all → AllStay scope all
  none_stay scope all none a c x n = absurd (none x (a, c, n))

  stay_both : (scope : Scope) (as_ bs : List RawExpr) → AllStay scope as_ → AllStay scope bs → AllStay scope (as_ ++ bs)
  stay_both scope as_ bs p q a c = elim (Contains-append_cases as_ bs a c) [ inl d ↦ p a d | inr d ↦ q a d ]

  stay_first : (scope : Scope) (a : RawExpr) (bs : List RawExpr) → Stays scope a → AllStay scope bs → AllStay scope (a ∷ bs)
  stay_first scope a bs p q b (zero, within, is) = subst (Stays scope) is p
  stay_first scope a bs p q b (suc i, within, is) = q b (i, omega (arith, within), is)

  -- a name that stands for a kept variable, or for a kept function
  pub variable_entry : (scope : Scope) (x : Bytes) (id : ℕ) → variable_number (meaning_in scope x) ≡ Some id → k.variable id ≡ true → EntryStays K (found x scope.names)
  variable_entry scope x id h v = by_found (found x scope.names) refl h
    where
      by_meaning : (y : Bytes) (m : Meaning) → variable_number (Some m) ≡ Some id → name_stays K y m ≡ true
      by_meaning y (Meaning.Variable n t) p = ap k.variable (some_same p) ∙ v
      by_meaning y Meaning.Function p = none_there p

      by_found : (o : Option Entry) → found x scope.names ≡ o → variable_number (meaning_in scope x) ≡ Some id → EntryStays K o
      by_found None p q = tt
      by_found (Some y) p q = by_meaning y.name y.meaning (sym (ap (λ (o : Option Entry). variable_number (option_map (λ (z : Entry). z.meaning) o)) p) ∙ q)

  pub function_entry : (scope : Scope) (x : Bytes) → NoVariable (found x scope.names) → K.function x ≡ true → EntryStays K (found x scope.names)
  function_entry scope x free v = by_found (found x scope.names) refl free
    where
      by_found : (o : Option Entry) → found x scope.names ≡ o → NoVariable o → EntryStays K o
      by_found None p q = tt
      by_found (Some y) p q = subst (λ (m : Meaning). name_stays K y.name m ≡ true) (sym q) (ap K.function (sym (found_named x scope.names y p)) ∙ v)

  -- ---- phrases

  pub tests_stay : (scope : Scope) (a : RawExpr) → Stays scope a → NamesStay K scope (Tests a)
  tests_stay scope a h = record { names = by_name; functions = λ x n. elim n [ ] }
    where
      by_name : (x : Bytes) → Names (Tests a) x → EntryStays K (found x scope.names)
      by_name x (Names.in_expression (holds {e} c n)) = subst (Stays scope) (in_one a e c) h x n

  pub bumps_stay : (scope : Scope) (a : RawExpr) → Stays scope a → NamesStay K scope (Bumps a)
  bumps_stay scope a h = record { names = by_name; functions = λ x n. elim n [ ] }
    where
      by_name : (x : Bytes) → Names (Bumps a) x → EntryStays K (found x scope.names)
      by_name x (Names.in_expression (holds {e} c n)) = subst (Stays scope) (in_one a e c) h x n

  pub assigns_stay : (scope : Scope) (a b : RawExpr) (op : _) → Stays scope a → Stays scope b → NamesStay K scope (Assigns a op b)
  assigns_stay scope a b op p q = record { names = by_name; functions = λ x n. elim n [ ] }
    where
      all : AllStay scope (a ∷ (b ∷ []))
      all = stay_first scope a (b ∷ []) p (λ c d. subst (Stays scope) (in_one b c d) q)

      by_name : (x : Bytes) → Names (Assigns a op b) x → EntryStays K (found x scope.names)
      by_name x (Names.in_expression (holds {e} c n)) = all e c x n

  pub member_stays : (scope : Scope) (before : List RawMember) (m : RawMember) → AllStay scope (lengths_in m.shape) → NamesStay K scope (HasMember before m)
  member_stays scope before m h = record { names = by_name; functions = λ x n. elim n [ ] }
    where
      by_name : (x : Bytes) → Names (HasMember before m) x → EntryStays K (found x scope.names)
      by_name x (Names.in_expression (holds {e} c n)) = h e c x n

  pub declares_stay : (scope : Scope) (stand : Stand) (v : RawVar) (i : RawInit) → AllStay scope (lengths_in v.shape) → NamesStay K scope (Declares stand v i)
  declares_stay scope stand v i h = record { names = by_name; functions = λ x n. elim n [ ] }
    where
      by_name : (x : Bytes) → Names (Declares stand v i) x → EntryStays K (found x scope.names)
      by_name x (Names.in_expression (holds {e} c n)) = h e c x n

  pub begins_stay : (scope : Scope) (stand : Stand) (v : RawVar) (i : RawInit) → AllStay scope (init_exprs i) → NamesStay K scope (Begins stand v i)
  begins_stay scope stand v i h = record { names = by_name; functions = λ x n. elim n [ ] }
    where
      by_name : (x : Bytes) → Names (Begins stand v i) x → EntryStays K (found x scope.names)
      by_name x (Names.in_expression (holds {e} c n)) = h e c x n

  pub returns_stay : (scope : Scope) (a : Option RawExpr) → AllStay scope (if_given a) → NamesStay K scope (Returns a)
  returns_stay scope a h = record { names = by_name; functions = λ x n. elim n [ ] }
    where
      by_name : (x : Bytes) → Names (Returns a) x → EntryStays K (found x scope.names)
      by_name x (Names.in_expression (holds {e} c n)) = h e c x n

  pub switches_stay : (scope : Scope) (a : RawExpr) (labels : List RawLabel) → Stays scope a → NoNames (cases labels) → NamesStay K scope (Switches a labels)
  switches_stay scope a labels h free = record { names = by_name; functions = λ x n. elim n [ ] }
    where
      all : AllStay scope (a ∷ cases labels)
      all = stay_first scope a (cases labels) h (none_stay scope (cases labels) free)

      by_name : (x : Bytes) → Names (Switches a labels) x → EntryStays K (found x scope.names)
      by_name x (Names.in_expression (holds {e} c n)) = all e c x n

  pub labels_stay : (scope : Scope) (labels : List RawLabel) → NoNames (cases labels) → LabelsStay K scope labels
  labels_stay scope labels free x c = absurd (free x c)

  -- a call names its function
  pub calls_stay : (scope : Scope) (to : RawTarget) (f : Bytes) (args : List RawArg) → AllStay scope (target_exprs to) → AllStay scope (arg_exprs args) → EntryStays K (found f scope.names) → K.function f ≡ true
      → NamesStay K scope (Calls InBlock to f args)
  calls_stay scope to f args p q entry kept = record { names = by_name; functions = by_function }
    where
      by_name : (x : Bytes) → Names (Calls InBlock to f args) x → EntryStays K (found x scope.names)
      by_name x (Names.in_expression (holds {e} c n)) = stay_both scope (target_exprs to) (arg_exprs args) p q e c x n
      by_name x Names.called = entry

      by_function : (x : Bytes) → NamesFunction (Calls InBlock to f args) x → K.function x ≡ true
      by_function x NamesFunction.called = kept

  pub allocates_stay : (scope : Scope) (to : RawTarget) (cast : Option RawTypeName) (n : RawAmount) → AllStay scope (target_exprs to) → AllStay scope (counts n)
      → ((x : Bytes) (closed : Bool) → Contains (sizes n) (size.Pointee x closed) → EntryStays K (found x scope.names)) → NamesStay K scope (Allocates to cast n)
  allocates_stay scope to cast n p q measured = record { names = by_name; functions = λ x n. elim n [ ] }
    where
      by_name : (x : Bytes) → Names (Allocates to cast n) x → EntryStays K (found x scope.names)
      by_name x (Names.in_expression (holds {e} c d)) = stay_both scope (target_exprs to) (counts n) p q e c x d
      by_name x (Names.measured {closed} c) = measured x closed c

  -- ---- from trees

  pub exprs_stay : (scope : Scope) (es : List RawExpr) (us : List Expr) → exprs_of raw scope es ≡ Some us → NamesKept (any_names us) → AllStay scope es
  exprs_stay scope [] us at h = λ a c. in_nothing a c
  exprs_stay scope (b ∷ rest) us at h =
      let m = more_there (expr_of raw scope b) (map (expr_of raw scope) rest) us at in
      stay_first scope b rest (expr_stays scope b m.first m.first_there (λ id n. h id (ap (λ (z : List Expr). any_names z id) (sym m.same) ∙ or_left (names m.first id) _ n)))
      (exprs_stay scope rest m.rest m.rest_there (λ id n. h id (ap (λ (z : List Expr). any_names z id) (sym m.same) ∙ or_right (names m.first id) _ n)))

  pub args_stay : (scope : Scope) (args : List RawArg) (us : List Expr) → args_tree raw scope args ≡ Some us → NamesKept (any_names us) → AllStay scope (arg_exprs args)
  args_stay scope [] us at h = λ a c. in_nothing a c
  args_stay scope (arg.Value b ∷ rest) us at h =
      let m = more_there (expr_of raw scope b) (map (arg_tree raw scope) rest) us at in
      stay_first scope b (arg_exprs rest) (expr_stays scope b m.first m.first_there (λ id n. h id (ap (λ (z : List Expr). any_names z id) (sym m.same) ∙ or_left (names m.first id) _ n)))
      (args_stay scope rest m.rest m.rest_there (λ id n. h id (ap (λ (z : List Expr). any_names z id) (sym m.same) ∙ or_right (names m.first id) _ n)))
  args_stay scope (arg.Literal text ∷ rest) us at h = let m = more_there None (map (arg_tree raw scope) rest) us at in none_there m.first_there

  pub only_stays : (scope : Scope) (args : List RawArg) (u : Expr) → only_tree raw scope args ≡ Some u → NamesKept (names u) → AllStay scope (arg_exprs args)
  only_stays scope args u at h a c =
      let o = then_there (expr_of raw scope) (only_arg args) u at in
      subst (Stays scope) (in_one o.value a (subst (λ (all : List RawExpr). Contains all a) (only_is args o.value o.there) c)) (expr_stays scope o.value u o.same h)

  -- those of printf, behind its format
  pub printed_stay : (scope : Scope) (args : List RawArg) (text : Bytes) (us : List Expr) → format_in args ≡ Some text → args_tree raw scope (later_args args) ≡ Some us → NamesKept (any_names us) → AllStay scope (arg_exprs args)
  printed_stay scope args text us is at h = subst (AllStay scope) (sym (later_is args text is)) (args_stay scope (later_args args) us at h)

  pub init_stays : (scope : Scope) (i : RawInit) (j : Init) → init_of raw scope i ≡ Some j → NamesKept (init_names j) → AllStay scope (init_exprs i)
  init_stays scope init.None j at h = λ a c. in_nothing a c
  init_stays scope (init.One b) j at h =
      let m = map_there begins.One (expr_of raw scope b) j at in
      λ a c. subst (Stays scope) (in_one b a c) (expr_stays scope b m.value m.there (λ id n. h id (ap (λ (z : Init). init_names z id) (sym m.same) ∙ n)))
  init_stays scope (init.Items es) j at h =
      let m = map_there begins.Items (exprs_of raw scope es) j at in
      exprs_stay scope es m.value m.there (λ id n. h id (ap (λ (z : Init). init_names z id) (sym m.same) ∙ n))

  pub place_stays : (scope : Scope) (a : RawExpr) (t : Target) → target_tree raw scope (target.Place a) ≡ Some t → NamesKept (target_names t) → Stays scope a
  place_stays scope a t at h =
      let m = map_there to_place.Place (expr_of raw scope a) t at in
      expr_stays scope a m.value m.there (λ id n. h id (ap (λ (z : Target). target_names z id) (sym m.same) ∙ n))

  pub value_stays : (scope : Scope) (a : Option RawExpr) (w : Option Expr) → optional (option_map (expr_of raw scope) a) ≡ Some w → NamesKept (value_names w) → AllStay scope (if_given a)
  value_stays scope None w at h a c = in_nothing a c
  value_stays scope (Some b) w at h a c =
      let o = optional_there (expr_of raw scope b) w at in
      subst (Stays scope) (in_one b a c) (expr_stays scope b o.0 o.1.0 (λ id n. h id (ap (λ (z : Option Expr). value_names z id) (sym o.1.1) ∙ n)))

  -- what an amount is a size of
  abbrev Measured : Scope → List RawSize → Type 0
  Measured scope all = (x : Bytes) (closed : Bool) → Contains all (size.Pointee x closed) → EntryStays K (found x scope.names)

  size_stays : (scope : Scope) (m : RawSize) (z : Size) → size_tree raw scope m ≡ Some z → NamesKept (size_names z) → Measured scope (m ∷ [])
  size_stays scope m z at h x closed c =
      let is : m ≡ size.Pointee x closed = in_one m (size.Pointee x closed) c in
      let q = map_there (λ (n : ℕ). measure.Pointee n closed) (variable_number (meaning_in scope x)) z (sym (ap (size_tree raw scope) is) ∙ at) in
      variable_entry scope x q.value q.there (h q.value (ap (λ (y : Size). size_names y q.value) (sym q.same) ∙ eq-eqb q.value q.value refl))

  pub record AmountStays (scope : Scope) (n : RawAmount) : Type 0 where
    pub count : AllStay scope (counts n)
    pub measured : Measured scope (sizes n)

  pub amount_stays : (scope : Scope) (n : RawAmount) (m : Amount) → amount_tree raw scope n ≡ Some m → NamesKept (amount_names m) → AmountStays scope n
  amount_stays scope (amount.Size s) m at h =
      let q = map_there quantity.Size (size_tree raw scope s) m at in
      record { count = λ a c. in_nothing a c; measured = size_stays scope s q.value q.there (λ id n. h id (ap (λ (z : Amount). amount_names z id) (sym q.same) ∙ n)) }
  amount_stays scope (amount.CountSize a s) m at h =
      let p = then_there (λ (x : Expr). option_map (quantity.CountSize x) (size_tree raw scope s)) (expr_of raw scope a) m at in
      let q = map_there (quantity.CountSize p.value) (size_tree raw scope s) m p.same in
      record {
        count = λ b c. subst (Stays scope) (in_one a b c) (expr_stays scope a p.value p.there (λ id n. h id (ap (λ (z : Amount). amount_names z id) (sym q.same) ∙ or_left (names p.value id) _ n)));
        measured = size_stays scope s q.value q.there (λ id n. h id (ap (λ (z : Amount). amount_names z id) (sym q.same) ∙ or_right (names p.value id) _ n));
      }
  amount_stays scope (amount.SizeCount s a) m at h =
      let p = then_there (λ (x : Size). option_map (quantity.SizeCount x) (expr_of raw scope a)) (size_tree raw scope s) m at in
      let q = map_there (quantity.SizeCount p.value) (expr_of raw scope a) m p.same in
      record {
        count = λ b c. subst (Stays scope) (in_one a b c) (expr_stays scope a q.value q.there (λ id n. h id (ap (λ (z : Amount). amount_names z id) (sym q.same) ∙ or_right (size_names p.value id) _ n)));
        measured = size_stays scope s p.value p.there (λ id n. h id (ap (λ (z : Amount). amount_names z id) (sym q.same) ∙ or_left (size_names p.value id) _ n));
      }
  amount_stays scope (amount.Count a) m at h =
      let q = map_there quantity.Count (expr_of raw scope a) m at in
      record {
        count = λ b c. subst (Stays scope) (in_one a b c) (expr_stays scope a q.value q.there (λ id n. h id (ap (λ (z : Amount). amount_names z id) (sym q.same) ∙ n)));
        measured = λ x closed c. in_nothing (size.Pointee x closed) c;
      }
