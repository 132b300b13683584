-- The variables that phrases declare, and those that stay.
use Rattle.std.proofs.Common.{◌≡◌, ℕ, suc, ◌+◌, List, [], ◌∷◌, ◌++◌, length, Bool, true, false, Option, Some, None, option_map, refl, sym, ap, ap₂, subst, ◌∙◌, arith, length-append, append-nil}
use Rattle.c_tree.specs.declared.types.CType.{CType}
use Rattle.c_tree.specs.declared.program.Var.{Var}
use Rattle.c_tree.specs.declared.raw.expr.RawVar.{RawVar}
use Rattle.c_tree.specs.declared.raw.program.RawInit.{RawInit}
use Rattle.c_tree.specs.declared.raw.program.RawInit.TheVariants as init
use Rattle.c_tree.specs.declared.raw.program.RawProgram.{RawProgram}
use Rattle.c_language.specs.DeclaredTypes.{item_count}
use Rattle.c_language.specs.Scopes.{Scope}
use Rattle.c_language.specs.Phrases.{Stand, Part, Declares, Begins, Phrases, phrase, begun_phrases}
use Rattle.c_language.specs.ProgramOf.{collected, ctype_with, is_static_stand, is_parameter_stand, variable_of, declared_by, variables_in}
use Rattle.c_language.proofs.Options.{none_there, some_same}
use Rattle.c_language.proofs.PhraseLists.{variables-append}
use Rattle.c_scope_laws.specs.Agreement.{SameVariable, StandsFor, there, out_of_for}
use Rattle.projection.specs.Kept.{Kept}
use Rattle.projection.specs.Projection.{if_so, projected_var, projected_vars}
use Rattle.c_scope_laws.proofs.TreeLevels.{chosen, unchosen}

-- two lists that are there, one after the other
record Split {A : Type 0} (xs ys : List (Option A)) (zs : List A) : Type 0 where
  pub left : List A
  pub right : List A
  pub at_left : collected xs ≡ Some left
  pub at_right : collected ys ≡ Some right
  pub same : zs ≡ left ++ right
  pub count : length left ≡ length xs

split : {A : Type 0} (xs ys : List (Option A)) (zs : List A) → collected (xs ++ ys) ≡ Some zs → Split xs ys zs
split [] ys zs at = record { left = []; right = zs; at_left = refl; at_right = at; same = refl; count = refl }
split (None ∷ xs) ys zs at = none_there at
split (Some x ∷ xs) ys zs at = by_rest (collected (xs ++ ys)) refl (λ ws p. split xs ys ws p) at
  where
    by_rest : (o : Option (List _)) → collected (xs ++ ys) ≡ o → ((ws : List _) → collected (xs ++ ys) ≡ Some ws → Split xs ys ws) → option_map (λ ws. x ∷ ws) o ≡ Some zs → Split (Some x ∷ xs) ys zs
    by_rest None p later at = none_there at
    by_rest (Some ws) p later at =
        let r = later ws p in
        record {
          left = x ∷ r.left;
          right = r.right;
          at_left = ap (option_map (λ ws. x ∷ ws)) r.at_left;
          at_right = r.at_right;
          same = sym (some_same at) ∙ ap (λ (all : List _). x ∷ all) r.same;
          count = ap suc r.count;
        }

pub join : {A : Type 0} (xs ys : List (Option A)) (as_ bs : List A) → collected xs ≡ Some as_ → collected ys ≡ Some bs → collected (xs ++ ys) ≡ Some (as_ ++ bs)
join [] ys as_ bs p q = q ∙ ap (λ (zs : List _). Some (zs ++ bs)) (some_same p)
join (None ∷ xs) ys as_ bs p q = none_there p
join (Some x ∷ xs) ys as_ bs p q = by_rest (collected xs) refl (λ cs at. join xs ys cs bs at q) p
  where
    by_rest : (o : Option (List _)) → collected xs ≡ o → ((cs : List _) → collected xs ≡ Some cs → collected (xs ++ ys) ≡ Some (cs ++ bs)) → option_map (λ zs. x ∷ zs) o ≡ Some as_ → collected (Some x ∷ (xs ++ ys)) ≡ Some (as_ ++ bs)
    by_rest None at later h = none_there h
    by_rest (Some cs) at later h = ap (option_map (λ zs. x ∷ zs)) (later cs at) ∙ ap (λ (zs : List _). Some (zs ++ bs)) (some_same h)

abbrev as_var : List ℕ → CType → ℕ → Bool → Option ℕ → Bool → Var
as_var name t line is_static owner is_parameter = record { name = name; shape = t; line = line; is_static = is_static; owner = owner; is_parameter = is_parameter }

module _ {F : Type 0} (k : Kept F) (g : ℕ → ℕ) where
  projected-append : (n : ℕ) (as_ bs : List Var) → projected_vars k g n (as_ ++ bs) ≡ projected_vars k g n as_ ++ projected_vars k g (n + length as_) bs
  projected-append n [] bs = ap (λ (m : ℕ). projected_vars k g m bs) (no_more_than n)
    where
      no_more_than : (n : ℕ) → n ≡ n + 0
      no_more_than n = omega arith
  projected-append n (v ∷ as_) bs =
      ap (λ (all : List Var). if_so (k.variable n) (projected_var k g v ∷ all) all) (projected-append (suc n) as_ bs ∙ ap (λ (m : ℕ). projected_vars k g (suc n) as_ ++ projected_vars k g m bs) (next n (length as_)))
      ∙ by_test (k.variable n)
    where
      next : (n m : ℕ) → suc n + m ≡ n + suc m
      next n m = omega arith

      by_test : (b : Bool) → if_so b (projected_var k g v ∷ (projected_vars k g (suc n) as_ ++ projected_vars k g (n + suc (length as_)) bs)) (projected_vars k g (suc n) as_ ++ projected_vars k g (n + suc (length as_)) bs)
          ≡ if_so b (projected_var k g v ∷ projected_vars k g (suc n) as_) (projected_vars k g (suc n) as_) ++ projected_vars k g (n + suc (length as_)) bs
      by_test true = refl
      by_test false = refl

module _ {F : Type 0} (k : Kept F) (g : ℕ → ℕ) (raw other : RawProgram) where
  -- from number m to number n, the variables of the phrases of the thinner text are those that stay of these
  pub record VarsStay (m : ℕ) (qs ps : Phrases) (n : ℕ) : Type 0 where
    pub vars : (vs : List Var) → collected (variables_in raw ps) ≡ Some vs → collected (variables_in other qs) ≡ Some (projected_vars k g m vs)
    pub count : m + length (variables_in raw ps) ≡ n

  pub no_vars : (n : ℕ) → VarsStay n [] [] n
  no_vars n = record { vars = λ vs at. ap (λ (all : List Var). Some (projected_vars k g n all)) (some_same at); count = omega arith }

  pub both_vars : {m n o : ℕ} (qs rs ps ts : Phrases) → VarsStay m qs ps n → VarsStay n rs ts o → VarsStay m (qs ++ rs) (ps ++ ts) o
  both_vars {m} {n} {o} qs rs ps ts a b = record { vars = vars; count = total }
    where
      total : m + length (variables_in raw (ps ++ ts)) ≡ o
      total =
          let h : length (variables_in raw (ps ++ ts)) ≡ length (variables_in raw ps) + length (variables_in raw ts) = ap length (variables-append raw ps ts) ∙ length-append (variables_in raw ps) (variables_in raw ts) in
          let p : m + length (variables_in raw ps) ≡ n = a.count in
          let q : n + length (variables_in raw ts) ≡ o = b.count in
          omega (arith, h, p, q)

      vars : (vs : List Var) → collected (variables_in raw (ps ++ ts)) ≡ Some vs → collected (variables_in other (qs ++ rs)) ≡ Some (projected_vars k g m vs)
      vars vs at =
          let r = split (variables_in raw ps) (variables_in raw ts) vs (ap collected (sym (variables-append raw ps ts)) ∙ at) in
          ap collected (variables-append other qs rs)
          ∙ join (variables_in other qs) (variables_in other rs) (projected_vars k g m r.left) (projected_vars k g n r.right) (a.vars r.left r.at_left) (b.vars r.right r.at_right)
          ∙ ap Some (ap (λ (x : ℕ). projected_vars k g m r.left ++ projected_vars k g x r.right) (sym a.count ∙ ap (λ (x : ℕ). m + x) (sym r.count)) ∙ sym (projected-append k g m r.left r.right) ∙ ap (projected_vars k g m) (sym r.same))

  pub more_none : {m n : ℕ} (qs ps : Phrases) → VarsStay m qs ps n → VarsStay m (qs ++ []) ps n
  more_none {m} {n} qs ps h = subst (λ (rs : Phrases). VarsStay m rs ps n) (sym (append-nil qs)) h

  pub less_none : {m n : ℕ} (qs ps : Phrases) → VarsStay m (qs ++ []) ps n → VarsStay m qs ps n
  less_none {m} {n} qs ps h = subst (λ (rs : Phrases). VarsStay m rs ps n) (append-nil qs) h

  -- phrases that declare no variable
  pub no_variable : (m l l' : ℕ) (scope next : Scope) (p q : Part) → declared_by raw l scope p ≡ [] → declared_by other l' next q ≡ [] → VarsStay m (phrase l' next q ∷ []) (phrase l scope p ∷ []) m
  no_variable m l l' scope next p q a b = record {
    vars = λ vs at. ap (λ (all : List (Option Var)). collected (all ++ [])) b ∙ ap (λ (all : List Var). Some (projected_vars k g m all)) (some_same (sym (ap (λ (all : List (Option Var)). collected (all ++ [])) a) ∙ at));
    count = ap (λ (all : List (Option Var)). m + length (all ++ [])) a ∙ none_more m;
  }
    where
      none_more : (m : ℕ) → m + 0 ≡ m
      none_more m = omega arith

  pub phrase_gone : (m l : ℕ) (scope : Scope) (p : Part) → declared_by raw l scope p ≡ [] → VarsStay m [] (phrase l scope p ∷ []) m
  phrase_gone m l scope p a = record {
    vars = λ vs at. ap (λ (all : List Var). Some (projected_vars k g m all)) (some_same (sym (ap (λ (all : List (Option Var)). collected (all ++ [])) a) ∙ at));
    count = ap (λ (all : List (Option Var)). m + length (all ++ [])) a ∙ none_more m;
  }
    where
      none_more : (m : ℕ) → m + 0 ≡ m
      none_more m = omega arith

  -- what an initialiser says declares none
  pub begun_stays : (m l : ℕ) (scope next : Scope) (stand place : Stand) (v : RawVar) (i : RawInit) → VarsStay m (begun_phrases l next place v i) (begun_phrases l scope stand v i) m
  begun_stays m l scope next stand place v init.None = no_vars m
  begun_stays m l scope next stand place v (init.One a) = no_variable m l l scope next (Begins stand v (init.One a)) (Begins place v (init.One a)) refl refl
  begun_stays m l scope next stand place v (init.Items all) = no_variable m l l scope next (Begins stand v (init.Items all)) (Begins place v (init.Items all)) refl refl

  pub begun_goes : (m l : ℕ) (scope : Scope) (stand : Stand) (v : RawVar) (i : RawInit) → VarsStay m [] (begun_phrases l scope stand v i) m
  begun_goes m l scope stand v init.None = no_vars m
  begun_goes m l scope stand v (init.One a) = phrase_gone m l scope (Begins stand v (init.One a)) refl
  begun_goes m l scope stand v (init.Items all) = phrase_gone m l scope (Begins stand v (init.Items all)) refl

  one_var : (o : Option Var) (vs : List Var) → collected (o ∷ []) ≡ Some vs → (v : Var) × (o ≡ Some v) × (vs ≡ v ∷ [])
  one_var None vs at = none_there at
  one_var (Some v) vs at = (v, refl, sym (some_same at))

  static_same : {stand place : Stand} → StandsFor stand place → is_static_stand place ≡ is_static_stand stand
  static_same there = refl
  static_same out_of_for = refl

  parameter_same : {stand place : Stand} → StandsFor stand place → is_parameter_stand place ≡ is_parameter_stand stand
  parameter_same there = refl
  parameter_same out_of_for = refl

  -- a variable that stays
  pub variable_stays : (l : ℕ) (scope next : Scope) (stand place : Stand) (v w : RawVar) (i j : RawInit) → k.variable scope.variables ≡ true → StandsFor stand place → SameVariable raw other v i w j → next.owner ≡ option_map g scope.owner
      → VarsStay scope.variables (phrase l next (Declares place w j) ∷ []) (phrase l scope (Declares stand v i) ∷ []) (scope.variables + 1)
  variable_stays l scope next stand place v w i j is st like own = record { vars = vars; count = refl }
    where
      of_type : (o : Option CType) (u : Var) → option_map (λ (t : CType). record { name = v.name; shape = t; line = l; is_static = is_static_stand stand; owner = scope.owner; is_parameter = is_parameter_stand stand }) o ≡ Some u
          → option_map (λ (t : CType). record { name = v.name; shape = t; line = l; is_static = is_static_stand stand; owner = option_map g scope.owner; is_parameter = is_parameter_stand stand }) o ≡ Some (projected_var k g u)
      of_type None u at = none_there at
      of_type (Some t) u at = ap (λ (x : Var). Some (projected_var k g x)) (some_same at)

      other_is : variable_of other l next.owner place w j ≡ option_map (λ (t : CType). record { name = v.name; shape = t; line = l; is_static = is_static_stand stand; owner = option_map g scope.owner; is_parameter = is_parameter_stand stand }) (ctype_with raw (item_count i) v.shape)
      other_is =
          ap₂ (λ (n : List ℕ) (o : Option CType). option_map (λ (t : CType). as_var n t l (is_static_stand place) next.owner (is_parameter_stand place)) o) like.name like.tree
          ∙ ap₂ (λ (a b : Bool). option_map (λ (t : CType). as_var v.name t l a next.owner b) (ctype_with raw (item_count i) v.shape)) (static_same st) (parameter_same st)
          ∙ ap (λ (o : Option ℕ). option_map (λ (t : CType). as_var v.name t l (is_static_stand stand) o (is_parameter_stand stand)) (ctype_with raw (item_count i) v.shape)) own

      vars : (vs : List Var) → collected (variable_of raw l scope.owner stand v i ∷ []) ≡ Some vs → collected (variable_of other l next.owner place w j ∷ []) ≡ Some (projected_vars k g scope.variables vs)
      vars vs at =
          let r = one_var (variable_of raw l scope.owner stand v i) vs at in
          ap (λ (o : Option Var). collected (o ∷ [])) (other_is ∙ of_type (ctype_with raw (item_count i) v.shape) r.0 r.1) ∙ ap Some (sym (ap (projected_vars k g scope.variables) r.2 ∙ chosen _ [] is))

  -- one that goes
  pub variable_goes : (l : ℕ) (scope : Scope) (stand : Stand) (v : RawVar) (i : RawInit) → k.variable scope.variables ≡ false → VarsStay scope.variables [] (phrase l scope (Declares stand v i) ∷ []) (scope.variables + 1)
  variable_goes l scope stand v i is = record {
    vars = λ vs at. let r = one_var (variable_of raw l scope.owner stand v i) vs at in ap Some (sym (ap (projected_vars k g scope.variables) r.2 ∙ unchosen (projected_var k g r.0 ∷ []) [] is));
    count = refl;
  }
