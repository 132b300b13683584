-- What is known where a text and a thinner one have come to the same place.
use Rattle.std.proofs.Common.{◌≡◌, ℕ, suc, ◌+◌, List, [], ◌∷◌, ◌++◌, length, drop, Bool, true, false, Option, Some, None, refl, sym, ap, ap₂, subst, ◌∙◌, arith, length-append}
use Rattle.std.specs.Prelude.{is_some, option_map, if◌then◌else◌}
use Rattle.std.proofs.lemmas.List.{take-append-le, take_all}
use Rattle.c_tree.specs.declared.raw.expr.RawVar.{RawVar}
use Rattle.c_tree.specs.declared.raw.program.RawInit.{RawInit}
use Rattle.c_tree.specs.declared.raw.program.RawProgram.{RawProgram}
use Rattle.c_language.specs.Words.{Bytes}
use Rattle.c_language.specs.DeclaredTypes.{variable_type}
use Rattle.c_language.specs.Scopes.{Scope, Meaning, Entry, found_in, meaning_in, meaning_here, with_entry, with_variable, with_function, opened, closed, numbered}
use Rattle.c_language.specs.Phrases.{Part}
use Rattle.c_language.specs.declared.expr_type.ExprType.{ExprType}
use Rattle.c_scope_laws.specs.Agreement.{Names, NamesFunction, DeclaresName, DeclaresHead, moved_meaning, IsVariable, PlacesAgree}
use Rattle.kept_numbers.specs.Ranks.{rank}
use Rattle.projection.specs.Kept.{Kept}
use Rattle.c_scope_laws.specs.Thinning.{found, EntryStays, NamesStay, heads_of}
use Rattle.c_scope_laws.specs.Following.{kept_more, kept_entries, TextsAgree, ScopesAgree}
use Rattle.c_scope_laws.proofs.Scopes.{kept-append, kept-drop, found_kept, none_kept, found_variable, found_function}

pub rank_kept : (test : ℕ → Bool) (n : ℕ) → test n ≡ true → rank test (n + 1) ≡ rank test n + 1
rank_kept test n h = ap (rank test) (one_more n) ∙ ap (λ (b : Bool). if b then suc (rank test n) else rank test n) h ∙ sym (one_more (rank test n))
  where
    one_more : (n : ℕ) → n + 1 ≡ suc n
    one_more n = omega arith

pub rank_gone : (test : ℕ → Bool) (n : ℕ) → test n ≡ false → rank test (n + 1) ≡ rank test n
rank_gone test n h = ap (rank test) (one_more n) ∙ ap (λ (b : Bool). if b then suc (rank test n) else rank test n) h
  where
    one_more : (n : ℕ) → n + 1 ≡ suc n
    one_more n = omega arith

head_kept : {k : Kept Bytes} {scope : Scope} {part : Part} → NamesStay k scope part → (x : Bytes) → DeclaresHead part x → k.function x ≡ true
head_kept stay x DeclaresHead.head = stay.functions x NamesFunction.declared

module _ (k : Kept Bytes) (raw other : RawProgram) {defined_here defined_there : ℕ} {owner_here owner_there : Option ℕ} where
  -- ---- numbers

  pub numbered_kept : {scope next : Scope} → k.statement scope.statements ≡ true → ScopesAgree k raw other defined_here defined_there owner_here owner_there scope next → ScopesAgree k raw other defined_here defined_there owner_here owner_there (numbered scope) (numbered next)
  numbered_kept {scope} {next} is h = record {
    names = h.names;
    within = h.within;
    outer = h.outer;
    structs = h.structs;
    variables = h.variables;
    before = h.before;
    around = h.around;
    owner = h.owner;
    other_owner = h.other_owner;
    functions = h.functions;
    others = h.others;
    statements = ap (λ (n : ℕ). n + 1) h.statements ∙ sym (rank_kept k.statement scope.statements is);
  }

  pub numbered_gone : {scope next : Scope} → k.statement scope.statements ≡ false → ScopesAgree k raw other defined_here defined_there owner_here owner_there scope next → ScopesAgree k raw other defined_here defined_there owner_here owner_there (numbered scope) next
  numbered_gone {scope} {next} is h = record {
    names = h.names;
    within = h.within;
    outer = h.outer;
    structs = h.structs;
    variables = h.variables;
    before = h.before;
    around = h.around;
    owner = h.owner;
    other_owner = h.other_owner;
    functions = h.functions;
    others = h.others;
    statements = h.statements ∙ sym (rank_gone k.statement scope.statements is);
  }

  -- ---- blocks

  pub follows_opened : {scope next : Scope} → ScopesAgree k raw other defined_here defined_there owner_here owner_there scope next → ScopesAgree k raw other defined_here defined_there owner_here owner_there (opened scope) (opened next)
  follows_opened {scope} {next} h = record {
    names = h.names;
    structs = h.structs;
    variables = h.variables;
    statements = h.statements;
    before = h.before;
    around = h.around;
    owner = h.owner;
    other_owner = h.other_owner;
    functions = h.functions;
    others = h.others;
    within = omega arith;
    outer = ap length h.names ∙ ap (λ (all : List Entry). length (kept_entries k all)) (sym (take_all (length scope.names) scope.names (omega arith)));
  }

  pub follows_closed : {a b : ℕ} {o q : Option ℕ} {scope inner next within : Scope} → ScopesAgree k raw other a b owner_here owner_there scope next → ScopesAgree k raw other defined_here defined_there o q inner within
      → ScopesAgree k raw other defined_here defined_there owner_here owner_there (closed scope inner) (closed next within)
  follows_closed h i = record {
    names = h.names;
    within = h.within;
    outer = h.outer;
    around = h.around;
    owner = h.owner;
    other_owner = h.other_owner;
    functions = i.functions;
    others = i.others;
    structs = i.structs;
    variables = i.variables;
    statements = i.statements;
    before = i.before;
  }

  -- one of which a numbered statement stays, outside
  pub follows_numbered : {scope inner next : Scope} → ScopesAgree k raw other defined_here defined_there owner_here owner_there scope next → ScopesAgree k raw other defined_here defined_there owner_here owner_there inner (numbered (opened next))
      → ScopesAgree k raw other defined_here defined_there owner_here owner_there (closed scope inner) (numbered next)
  follows_numbered h i = record {
    names = h.names;
    within = h.within;
    outer = h.outer;
    around = h.around;
    owner = h.owner;
    other_owner = h.other_owner;
    structs = i.structs;
    variables = i.variables;
    statements = i.statements;
    before = i.before;
    functions = i.functions;
    others = i.others;
  }

  -- a block of which nothing stays
  pub follows_gone : {scope inner next : Scope} → ScopesAgree k raw other defined_here defined_there owner_here owner_there scope next → ScopesAgree k raw other defined_here defined_there owner_here owner_there inner (opened next) → ScopesAgree k raw other defined_here defined_there owner_here owner_there (closed scope inner) next
  follows_gone h i = record {
    names = h.names;
    within = h.within;
    outer = h.outer;
    around = h.around;
    owner = h.owner;
    other_owner = h.other_owner;
    functions = i.functions;
    others = i.others;
    structs = i.structs;
    variables = i.variables;
    statements = i.statements;
    before = i.before;
  }

  -- ---- declarations

  pub variable_kept : {scope next : Scope} (v w : RawVar) (i j : RawInit) → k.variable scope.variables ≡ true → w.name ≡ v.name → variable_type other w j ≡ variable_type raw v i
      → ScopesAgree k raw other defined_here defined_there owner_here owner_there scope next → ScopesAgree k raw other defined_here defined_there owner_here owner_there (with_variable raw v i scope) (with_variable other w j next)
  variable_kept {scope} {next} v w i j is name typed h = record {
    names = ap₂ (λ (all : List Entry) (e : Entry). all ++ e ∷ []) h.names (entries name typed h.variables)
        ∙ ap (λ (b : Bool). kept_entries k scope.names ++ kept_more k b entry []) (sym is) ∙ sym (kept-append k scope.names (entry ∷ []));
    within = omega (arith, h.within, length-append scope.names (entry ∷ []));
    outer = h.outer ∙ ap (λ (all : List Entry). length (kept_entries k all)) (sym (take-append-le scope.outer scope.names (entry ∷ []) h.within));
    structs = h.structs;
    statements = h.statements;
    before = h.before;
    around = h.around;
    owner = h.owner;
    other_owner = h.other_owner;
    functions = h.functions;
    others = h.others;
    variables = ap (λ (n : ℕ). n + 1) h.variables ∙ sym (rank_kept k.variable scope.variables is);
  }
    where
      entry : Entry
      entry = record { name = v.name; meaning = Meaning.Variable scope.variables (variable_type raw v i) }

      entries : {x y : Bytes} {t u : Option ExprType} {m n : ℕ} → x ≡ y → t ≡ u → m ≡ n → ◌≡◌ {A = Entry} (record { name = x; meaning = Meaning.Variable m t }) (record { name = y; meaning = Meaning.Variable n u })
      entries {x} {y} {t} {u} {m} {n} a b c = ap₂ (λ (z : Bytes) (q : Option ExprType). record { name = z; meaning = Meaning.Variable m q }) a b ∙ ap (λ (l : ℕ). record { name = y; meaning = Meaning.Variable l u }) c

  pub variable_gone : {scope next : Scope} (v : RawVar) (i : RawInit) → k.variable scope.variables ≡ false → ScopesAgree k raw other defined_here defined_there owner_here owner_there scope next → ScopesAgree k raw other defined_here defined_there owner_here owner_there (with_variable raw v i scope) next
  variable_gone {scope} {next} v i is h = record {
    names = h.names ∙ sym (kept-append k scope.names (entry ∷ []) ∙ ap (λ (b : Bool). kept_entries k scope.names ++ kept_more k b entry []) is ∙ append_none (kept_entries k scope.names));
    within = omega (arith, h.within, length-append scope.names (entry ∷ []));
    outer = h.outer ∙ ap (λ (all : List Entry). length (kept_entries k all)) (sym (take-append-le scope.outer scope.names (entry ∷ []) h.within));
    structs = h.structs;
    statements = h.statements;
    before = h.before;
    around = h.around;
    owner = h.owner;
    other_owner = h.other_owner;
    functions = h.functions;
    others = h.others;
    variables = h.variables ∙ sym (rank_gone k.variable scope.variables is);
  }
    where
      entry : Entry
      entry = record { name = v.name; meaning = Meaning.Variable scope.variables (variable_type raw v i) }

      append_none : (xs : List Entry) → xs ++ [] ≡ xs
      append_none [] = refl
      append_none (x ∷ xs) = ap (λ (all : List Entry). x ∷ all) (append_none xs)

  -- ---- what the rules ask

  pub meaning_kept : {scope next : Scope} (x : Bytes) → ScopesAgree k raw other defined_here defined_there owner_here owner_there scope next → EntryStays k (found x scope.names) → meaning_in next x ≡ option_map (moved_meaning (rank k.variable)) (meaning_in scope x)
  meaning_kept {scope} x h is = ap (found_in x) h.names ∙ found_kept k x scope.names is

  here_kept : {scope next : Scope} (x : Bytes) → ScopesAgree k raw other defined_here defined_there owner_here owner_there scope next → meaning_here next x ≡ found_in x (kept_entries k (drop scope.outer scope.names))
  here_kept {scope} x h = ap₂ (λ (n : ℕ) (all : List Entry). found_in x (drop n all)) h.outer h.names ∙ ap (found_in x) (kept-drop k scope.outer scope.names)

  -- at a place of the thinner text that follows one of the text, what the rules ask is the same of a phrase whose names stay
  pub places_agree : {scope next : Scope} {part : Part} → TextsAgree k raw other → ScopesAgree k raw other defined_here defined_there owner_here owner_there scope next → NamesStay k scope part
      → PlacesAgree (heads_of k) (rank k.variable) (Names part) (NamesFunction part) (DeclaresName part) (DeclaresHead part) raw other scope next
  places_agree {scope} {next} texts h stay = record {
    outside = texts.outside;
    scopes = record { names = λ x n. meaning_kept x h (stay.names x n); structs = h.structs };
    less = record {
      everywhere = λ x d none. ap (found_in x) h.names ∙ none_kept k x scope.names none;
      here = λ x d none. here_kept x h ∙ none_kept k x (drop scope.outer scope.names) none;
      variables = λ x n is. found_variable k x (drop scope.outer scope.names) (head_kept stay x n) (subst IsVariable (here_kept x h) is);
    };
    functions = record { definitions = λ x n. texts.definitions x (stay.functions x n); before = h.before; around = h.around };
  }

  -- what declares nothing asks the same inside a block that is opened at the first place alone
  pub places_beside : {scope next : Scope} {part : Part} → TextsAgree k raw other → ScopesAgree k raw other defined_here defined_there owner_here owner_there scope next → NamesStay k scope part
      → ((x : Bytes) → DeclaresName part x → ⊥) → ((x : Bytes) → DeclaresHead part x → ⊥)
      → PlacesAgree (heads_of k) (rank k.variable) (Names part) (NamesFunction part) (DeclaresName part) (DeclaresHead part) raw other (opened scope) next
  places_beside {scope} {next} texts h stay none no_head = record {
    outside = texts.outside;
    scopes = record { names = λ x n. meaning_kept x h (stay.names x n); structs = h.structs };
    less = record {
      everywhere = λ x d empty. absurd (none x d);
      here = λ x d empty. absurd (none x d);
      variables = λ x d is. absurd (no_head x d);
    };
    functions = record { definitions = λ x n. texts.definitions x (stay.functions x n); before = h.before; around = h.around };
  }

  -- ---- functions

  -- a name that is added at both places
  function_entry : {scope next : Scope} (x : Bytes) → k.function x ≡ true → ScopesAgree k raw other defined_here defined_there owner_here owner_there scope next
      → ScopesAgree k raw other defined_here defined_there owner_here owner_there (with_entry x Meaning.Function scope) (with_entry x Meaning.Function next)
  function_entry {scope} {next} x is h = record {
    names = ap (λ (all : List Entry). all ++ entry ∷ []) h.names ∙ ap (λ (b : Bool). kept_entries k scope.names ++ kept_more k b entry []) (sym is) ∙ sym (kept-append k scope.names (entry ∷ []));
    within = omega (arith, h.within, length-append scope.names (entry ∷ []));
    outer = h.outer ∙ ap (λ (all : List Entry). length (kept_entries k all)) (sym (take-append-le scope.outer scope.names (entry ∷ []) h.within));
    structs = h.structs;
    variables = h.variables;
    statements = h.statements;
    before = h.before;
    around = h.around;
    owner = h.owner;
    other_owner = h.other_owner;
    functions = h.functions;
    others = h.others;
  }
    where
      entry : Entry
      entry = record { name = x; meaning = Meaning.Function }

  pub function_kept : {scope next : Scope} (x : Bytes) → k.function x ≡ true → (IsVariable (meaning_here scope x) → ⊥) → ScopesAgree k raw other defined_here defined_there owner_here owner_there scope next
      → ScopesAgree k raw other defined_here defined_there owner_here owner_there (with_function x scope) (with_function x next)
  function_kept {scope} {next} x is none h = by_here (meaning_here scope x) refl
    where
      grown : (o : Option Meaning) (place : Scope) → Scope
      grown o place = if is_some o then place else with_entry x Meaning.Function place

      moved : {o q : Option Meaning} → meaning_here scope x ≡ o → meaning_here next x ≡ q → ScopesAgree k raw other defined_here defined_there owner_here owner_there (grown o scope) (grown q next)
          → ScopesAgree k raw other defined_here defined_there owner_here owner_there (with_function x scope) (with_function x next)
      moved {o} {q} a b f = subst (λ (q : Option Meaning). ScopesAgree k raw other defined_here defined_there owner_here owner_there (with_function x scope) (grown q next)) (sym b)
          (subst (λ (o : Option Meaning). ScopesAgree k raw other defined_here defined_there owner_here owner_there (grown o scope) (grown q next)) (sym a) f)

      by_here : (o : Option Meaning) → meaning_here scope x ≡ o → ScopesAgree k raw other defined_here defined_there owner_here owner_there (with_function x scope) (with_function x next)
      by_here None at_none = moved at_none (here_kept x h ∙ none_kept k x (drop scope.outer scope.names) at_none) (function_entry x is h)
      by_here (Some Meaning.Function) at_function = moved at_function (here_kept x h ∙ found_function k x (drop scope.outer scope.names) is at_function) h
      by_here (Some (Meaning.Variable id t)) at_variable = absurd (none (id, t, at_variable))

  pub function_gone : {scope next : Scope} (x : Bytes) → k.function x ≡ false → ScopesAgree k raw other defined_here defined_there owner_here owner_there scope next
      → ScopesAgree k raw other defined_here defined_there owner_here owner_there (with_function x scope) next
  function_gone {scope} {next} x is h = by_here (is_some (meaning_here scope x))
    where
      entry : Entry
      entry = record { name = x; meaning = Meaning.Function }

      append_none : (xs : List Entry) → xs ++ [] ≡ xs
      append_none [] = refl
      append_none (x ∷ xs) = ap (λ (all : List Entry). x ∷ all) (append_none xs)

      by_here : (b : Bool) → ScopesAgree k raw other defined_here defined_there owner_here owner_there (if b then scope else with_entry x Meaning.Function scope) next
      by_here true = h
      by_here false = record {
        names = h.names ∙ sym (kept-append k scope.names (entry ∷ []) ∙ ap (λ (b : Bool). kept_entries k scope.names ++ kept_more k b entry []) is ∙ append_none (kept_entries k scope.names));
        within = omega (arith, h.within, length-append scope.names (entry ∷ []));
        outer = h.outer ∙ ap (λ (all : List Entry). length (kept_entries k all)) (sym (take-append-le scope.outer scope.names (entry ∷ []) h.within));
        structs = h.structs;
        variables = h.variables;
        statements = h.statements;
        before = h.before;
        around = h.around;
        owner = h.owner;
        other_owner = h.other_owner;
        functions = h.functions;
        others = h.others;
      }
