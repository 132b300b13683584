-- The projection of a list goes on with its kept acts, calls and moves as the list does, and stays at others.
use Rattle.std.proofs.Common.{◌≡◌, ℕ, ℤ, pos, List, [], ◌∷◌, map, Bool, true, false, refl, sym, ap, ◌∙◌, subst}
use Rattle.std.specs.Prelude.{◌||◌}
use Rattle.std.specs.List.{list_any}
use Rattle.c_language.proofs.Tests.{by_answer, false_true}
use Rattle.c_tree.specs.declared.expr.Expr.{Expr}
use Rattle.c_tree.specs.declared.statement.Target.{Target}
use Rattle.c_language.specs.Code.{Act, Code, End, Opens, Plain, Fork, Loop, Leaves, Call, ◌⨟◌, is_true, either, leave}
use Rattle.c_meaning.specs.declared.value.Value.{Value}
use Rattle.c_meaning.specs.declared.value.Value.TheVariants.{Number, Null, To}
use Rattle.c_meaning.specs.declared.event.Shown.{Shown}
use Rattle.c_meaning.specs.declared.event.Shown.TheVariants as shown
use Rattle.c_meaning.specs.Values.{Types, State, tested, shown_of, all_closed, variable_opened}
use Rattle.c_meaning.specs.Acts.{Made, first_number, picked}
use Rattle.projection.specs.Kept.{Kept, chosen}
use Rattle.projection.specs.Projection.{if_so}
use Rattle.projection.specs.Renumbering.{renamed, renamed_target}
use Rattle.run_facts.specs.NextSteps.{Next, Ends, Passes, Does, Calls, next_of}
use Rattle.simulation.specs.Places.{kept_target}
use Rattle.simulation.specs.Settings.{ShowSame}
use Rattle.simulation_places.specs.ProjectedCode.{Numbering, renamed_act, renamed_all, project_code, keeps_move, IsNested}

-- ---- choices

chosen_so : {A : Type 0} (b : Bool) (x y : A) → b ≡ true → either b x y ≡ x
chosen_so true x y e = refl
chosen_so false x y e = false_true e

chosen_not : {A : Type 0} (b : Bool) (x y : A) → b ≡ false → either b x y ≡ y
chosen_not true x y e = false_true (sym e)
chosen_not false x y e = refl

either_then : (b : Bool) (x y c : Code) → either b x y ⨟ c ≡ either b (x ⨟ c) (y ⨟ c)
either_then true x y c = refl
either_then false x y c = refl

leave_then : (xs : List ℕ) (r c : Code) → leave xs r ⨟ c ≡ leave xs (r ⨟ c)
leave_then [] r c = refl
leave_then (x ∷ xs) r c = refl

-- ---- a test's value, as it is shown

abbrev shown_number : Shown → ℤ
shown_number (shown.Number z) = z
shown_number shown.Null = pos 0
shown_number (shown.Index i) = pos 1

abbrev first_shown : List Shown → ℤ
first_shown [] = pos 0
first_shown (v ∷ vs) = shown_number v

tested_shown : (v : Value) → tested v ≡ shown_number (shown_of v)
tested_shown (Number z) = refl
tested_shown Null = refl
tested_shown (To p) = refl

first_is : (vs : List Value) → first_number vs ≡ first_shown (map shown_of vs)
first_is [] = refl
first_is (v ∷ vs) = tested_shown v

pub picks_same : (v u : Made) → ShowSame v u → picked u ≡ picked v
picks_same v u same = first_is u.values ∙ (ap first_shown (sym same) ∙ sym (first_is v.values))

module _ (k : Kept ℕ) (new : Numbering) where
  abbrev project : Code → Code
  project = project_code k new

  -- ---- one list after another

  pub project_then : (a b : Code) → project (a ⨟ b) ≡ project a ⨟ project b
  project_then End b = refl
  project_then (Opens x r) b =
      ap (λ c. either (k.variable x) (Opens (new.variable x) c) c) (project_then r b) ∙ sym (either_then (k.variable x) (Opens (new.variable x) (project r)) (project r) (project b))
  project_then (Plain i a r) b =
      ap (λ c. either (k.statement i) (Plain (new.statement i) (renamed_act new.variable a) c) c) (project_then r b) ∙ sym (either_then (k.statement i) (Plain (new.statement i) (renamed_act new.variable a) (project r)) (project r) (project b))
  project_then (Fork i e d r) b =
      ap (λ c. either (k.statement i) (Fork (new.statement i) (renamed new.variable e) (λ v. project (d v)) c) c) (project_then r b) ∙ sym (either_then (k.statement i) (Fork (new.statement i) (renamed new.variable e) (λ v. project (d v)) (project r)) (project r) (project b))
  project_then (Loop i e d r) b =
      ap (λ c. either (k.statement i) (Loop (new.statement i) (renamed new.variable e) (project d) c) c) (project_then r b) ∙ sym (either_then (k.statement i) (Loop (new.statement i) (renamed new.variable e) (project d) (project r)) (project r) (project b))
  project_then (Leaves xs r) b = ap (leave (renamed_all k new xs)) (project_then r b) ∙ sym (leave_then (renamed_all k new xs) (project r) (project b))
  project_then (Call i to f args r) b =
      ap (λ c. either (k.statement i) (Call (new.statement i) (kept_target (k.result i) (renamed_target new.variable to)) (new.function f) (map (renamed new.variable) (chosen (k.argument i) 0 args)) c) c) (project_then r b) ∙ sym (either_then (k.statement i) (Call (new.statement i) (kept_target (k.result i) (renamed_target new.variable to)) (new.function f) (map (renamed new.variable) (chosen (k.argument i) 0 args)) (project r)) (project r) (project b))

  nested_then : (a b : Code) → IsNested k new a → IsNested k new b → IsNested k new (a ⨟ b)
  nested_then End b h n = n
  nested_then (Opens x r) b h n = nested_then r b h n
  nested_then (Plain i a r) b h n = nested_then r b h n
  nested_then (Fork i e c r) b h n = (h.0, (h.1.0, nested_then r b h.1.1 n))
  nested_then (Loop i e c r) b h n = (h.0, (h.1.0, nested_then r b h.1.1 n))
  nested_then (Leaves xs r) b h n = nested_then r b h n
  nested_then (Call i to f args r) b h n = nested_then r b h n

  -- ---- the end of a block

  pub leaves_kept : (xs : List ℕ) (r : Code) → list_any k.variable xs ≡ true → leave (renamed_all k new xs) r ≡ Leaves (renamed_all k new xs) r
  leaves_kept [] r e = false_true e
  leaves_kept (x ∷ xs) r e =
      by_answer (k.variable x) (λ s. ap (λ ys. leave ys r) (first s) ∙ sym (ap (λ ys. Leaves ys r) (first s))) (λ s. ap (λ ys. leave ys r) (rest s) ∙ (leaves_kept xs r (sym (ap (λ b. b || list_any k.variable xs) s) ∙ e) ∙ sym (ap (λ ys. Leaves ys r) (rest s))))
    where
      first : k.variable x ≡ true → renamed_all k new (x ∷ xs) ≡ new.variable x ∷ renamed_all k new xs
      first s = ap (λ b. if_so b (new.variable x ∷ renamed_all k new xs) (renamed_all k new xs)) s

      rest : k.variable x ≡ false → renamed_all k new (x ∷ xs) ≡ renamed_all k new xs
      rest s = ap (λ b. if_so b (new.variable x ∷ renamed_all k new xs) (renamed_all k new xs)) s

  leaves_gone : (xs : List ℕ) (r : Code) → list_any k.variable xs ≡ false → leave (renamed_all k new xs) r ≡ r
  leaves_gone [] r e = refl
  leaves_gone (x ∷ xs) r e =
      by_answer (k.variable x) (λ s. false_true (sym e ∙ ap (λ b. b || list_any k.variable xs) s)) (λ s. ap (λ b. leave (if_so b (new.variable x ∷ renamed_all k new xs) (renamed_all k new xs)) r) s ∙ leaves_gone xs r (sym (ap (λ b. b || list_any k.variable xs) s) ∙ e))

  -- ---- what the projection does next

  pub record PassesAs (c r : Code) : Type 0 where
    pub kept : keeps_move k c ≡ true → (change : Types → State → State) × (next_of (project c) ≡ Passes change (project r))
    pub skipped : keeps_move k c ≡ false → project r ≡ project c
    pub nested : IsNested k new c → IsNested k new r

  pub record DoesThere (c : Code) (i : ℕ) (a : Act) (go : Made → Code) : Type 0 where
    pub onward : Made → Code
    pub next_is : next_of (project c) ≡ Does (new.statement i) (renamed_act new.variable a) onward
    pub goes_on : (v u : Made) → ShowSame v u → onward u ≡ project (go v)

  pub record DoesAs (c : Code) (i : ℕ) (a : Act) (go : Made → Code) : Type 0 where
    pub kept : k.statement i ≡ true → DoesThere c i a go
    pub skipped : k.statement i ≡ false → IsNested k new c → (v : Made) → project (go v) ≡ project c
    pub nested : IsNested k new c → (v : Made) → IsNested k new (go v)

  pub record CallsAs (c : Code) (i : ℕ) (to : Target) (g : ℕ) (args : List Expr) (r : Code) : Type 0 where
    pub kept :
        k.statement i ≡ true
        → next_of (project c) ≡ Calls (new.statement i) (kept_target (k.result i) (renamed_target new.variable to)) (new.function g) (map (renamed new.variable) (chosen (k.argument i) 0 args)) (project r)
    pub skipped : k.statement i ≡ false → project r ≡ project c
    pub nested : IsNested k new c → IsNested k new r

  abbrev pub ProjectsAs : Code → Next → Type 0
  ProjectsAs c Ends = next_of (project c) ≡ Ends
  ProjectsAs c (Passes change r) = PassesAs c r
  ProjectsAs c (Does i a go) = DoesAs c i a go
  ProjectsAs c (Calls i to g args r) = CallsAs c i to g args r

  -- a turn of a loop that is kept, and of one that isn't
  turn : (i : ℕ) (e : Expr) (b r : Code) (t : Bool) → k.statement i ≡ true → either t (project b ⨟ Loop (new.statement i) (renamed new.variable e) (project b) (project r)) (project r) ≡ project (either t (b ⨟ Loop i e b r) r)
  turn i e b r true s =
      sym (project_then b (Loop i e b r) ∙ ap (λ c. project b ⨟ c) (chosen_so (k.statement i) (Loop (new.statement i) (renamed new.variable e) (project b) (project r)) (project r) s))
  turn i e b r false s = refl

  other_turn : (i : ℕ) (e : Expr) (b r : Code) (t : Bool) → project b ≡ End → k.statement i ≡ false → project (either t (b ⨟ Loop i e b r) r) ≡ project r
  other_turn i e b r true none s =
      project_then b (Loop i e b r) ∙ (ap (λ d. d ⨟ project (Loop i e b r)) none ∙ chosen_not (k.statement i) (Loop (new.statement i) (renamed new.variable e) (project b) (project r)) (project r) s)
  other_turn i e b r false none s = refl

  nested_turn : (i : ℕ) (e : Expr) (b r : Code) (t : Bool) → IsNested k new (Loop i e b r) → IsNested k new (either t (b ⨟ Loop i e b r) r)
  nested_turn i e b r true n = nested_then b (Loop i e b r) n.1.0 n
  nested_turn i e b r false n = n.1.1

  projects : (c : Code) → ProjectsAs c (next_of c)
  projects End = refl
  projects (Opens x r) = record {
    kept = λ s. ((λ types m. variable_opened types (new.variable x) m), ap next_of (chosen_so (k.variable x) (Opens (new.variable x) (project r)) (project r) s));
    skipped = λ s. sym (chosen_not (k.variable x) (Opens (new.variable x) (project r)) (project r) s);
    nested = λ n. n;
  }
  projects (Plain i a r) =
      let there : Code = Plain (new.statement i) (renamed_act new.variable a) (project r) in
      record {
        kept = λ s. record { onward = λ x. project r; next_is = ap next_of (chosen_so (k.statement i) there (project r) s); goes_on = λ v u same. refl };
        skipped = λ s n v. sym (chosen_not (k.statement i) there (project r) s);
        nested = λ n v. n;
      }
  projects (Fork i e c r) =
      let there : Code = Fork (new.statement i) (renamed new.variable e) (λ v. project (c v)) (project r) in
      record {
        kept = λ s. record {
          onward = λ x. project (c (picked x)) ⨟ project r;
          next_is = ap next_of (chosen_so (k.statement i) there (project r) s);
          goes_on = λ v u same. ap (λ z. project (c z) ⨟ project r) (picks_same v u same) ∙ sym (project_then (c (picked v)) r);
        };
        skipped = λ s n v. project_then (c (picked v)) r ∙ (ap (λ d. d ⨟ project r) (n.0 s (picked v)) ∙ sym (chosen_not (k.statement i) there (project r) s));
        nested = λ n v. nested_then (c (picked v)) r (n.1.0 (picked v)) n.1.1;
      }
  projects (Loop i e b r) =
      let there : Code = Loop (new.statement i) (renamed new.variable e) (project b) (project r) in
      record {
        kept = λ s. record {
          onward = λ x. either (is_true (picked x)) (project b ⨟ there) (project r);
          next_is = ap next_of (chosen_so (k.statement i) there (project r) s);
          goes_on = λ v u same. ap (λ z. either (is_true z) (project b ⨟ there) (project r)) (picks_same v u same) ∙ turn i e b r (is_true (picked v)) s;
        };
        skipped = λ s n v. other_turn i e b r (is_true (picked v)) (n.0 s) s ∙ sym (chosen_not (k.statement i) there (project r) s);
        nested = λ n v. nested_turn i e b r (is_true (picked v)) n;
      }
  projects (Leaves xs r) = record {
    kept = λ s. ((λ types m. all_closed (renamed_all k new xs) m), ap next_of (leaves_kept xs (project r) s));
    skipped = λ s. sym (leaves_gone xs (project r) s);
    nested = λ n. n;
  }
  projects (Call i to g args r) =
      let there : Code = Call (new.statement i) (kept_target (k.result i) (renamed_target new.variable to)) (new.function g) (map (renamed new.variable) (chosen (k.argument i) 0 args)) (project r) in
      record {
        kept = λ s. ap next_of (chosen_so (k.statement i) there (project r) s);
        skipped = λ s. sym (chosen_not (k.statement i) there (project r) s);
        nested = λ n. n;
      }

  pub projects_as : (c : Code) (n : Next) → next_of c ≡ n → ProjectsAs c n
  projects_as c n e = subst (ProjectsAs c) e (projects c)
