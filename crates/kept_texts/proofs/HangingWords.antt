-- Where what is kept of a well-formed program hangs together, each kept statement has its own words in the projection.
use Rattle.std.proofs.Common.{◌≡◌, ℕ, List, [], Bool, true, false, ◌&&◌, not, Option, Some, inl, refl, sym, ap, subst, ◌∙◌, Contains}
use Rattle.std.specs.Prelude.{slice_get}
use Rattle.std.specs.Option.{option_map_or}
use Rattle.std.proofs.lemmas.Bool.{and_parts}
use Rattle.c_tree.specs.declared.expr.Expr.{Expr}
use Rattle.c_tree.specs.declared.program.Function.{Function}
use Rattle.c_tree.specs.declared.program.Program.{Program}
use Rattle.c_tree.specs.declared.statement.Arm.{Arm}
use Rattle.c_tree.specs.declared.statement.Statement.{Statement, out-Statement}
use Rattle.c_tree.specs.declared.statement.Statement.TheViews.{roll-Statement, roll-out-Statement}
use Rattle.c_tree.specs.declared.statement.Statement.TheOpen.{Statement-F}
use Rattle.c_tree.specs.declared.statement.Statement.TheVariants as s
use Rattle.c_tree.specs.declared.statement.Target.{Target}
use Rattle.c_tree.specs.declared.statement.Target.TheVariants as to_place
use Rattle.c_tree.specs.Numbered.{own_start, StandsIn, StandsInProgram}
use Rattle.c_tree.proofs.SearchLemmas.{own_of}
use Rattle.c_language.specs.Names.{act_names}
use Rattle.c_language.specs.Programs.{IsWellFormed}
use Rattle.c_language.proofs.Tests.{false_true}
use Rattle.dep_model.specs.Doings.{Doing, Does, Calls, doings, body_doings, functions_doings, doings_of}
use Rattle.dep_model.proofs.DoingForms.{doings-Invoke}
use Rattle.dep_model.proofs.Membership.{IsIn, contains_of_in}
use Rattle.projection.specs.Kept.{Kept}
use Rattle.projection.specs.Names.{call_names, stays}
use Rattle.own_words.specs.OwnWords.{words_kept, layer_splits, for_parts, HangsTogether as OwnHang, KeepsWords}
use Rattle.own_words.proofs.Lists.{contained_at}
use Rattle.own_words.proofs.StandingWords.{keeps_words}
use Rattle.hanging_sets.specs.Hanging.{words_in, HangsTogether}
use Rattle.hanging_sets.proofs.NamedDoings.{kept_names, functions_same, in_of_named}
use Rattle.kept_texts.proofs.ButLines.{other}
use Rattle.kept_texts.proofs.ClearPrograms.{of_function}
use Rattle.kept_texts.proofs.LoneParts.{lone_layer, is_lone, function_whole}
use Rattle.kept_texts.proofs.StandingDoings.{stands_does, own_does}
use Rattle.kept_texts.proofs.WholeLines.{whole_alike}

-- what declares nothing by a call becomes one statement or none
none_stays : (b c : Bool) → (b && (c && false)) ≡ false
none_stays true true = refl
none_stays true false = refl
none_stays false c = refl

lone_target : (k : Kept ℕ) (id l f : ℕ) (to : Target) (args : List Expr) → lone_layer (Statement-F.Invoke id l to f args) ≡ true → layer_splits k (Statement-F.Invoke id l to f args) ≡ false
lone_target k id l f to_place.None args h = none_stays (k.statement id) (not (k.result id))
lone_target k id l f (to_place.Place e) args h = none_stays (k.statement id) (not (k.result id))
lone_target k id l f (to_place.Declared x) args h = false_true h

lone_splits : (k : Kept ℕ) (z : Statement-F Statement Arm) → lone_layer z ≡ true → layer_splits k z ≡ false
lone_splits k (Statement-F.Declare id l x i) h = refl
lone_splits k (Statement-F.Assign id l a op b) h = refl
lone_splits k (Statement-F.Bump id l a up before) h = refl
lone_splits k (Statement-F.Invoke id l to f args) h = lone_target k id l f to args h
lone_splits k (Statement-F.Fetch id l to) h = refl
lone_splits k (Statement-F.Write id l a) h = refl
lone_splits k (Statement-F.Print id l format args) h = refl
lone_splits k (Statement-F.Heap id l to cast n) h = refl
lone_splits k (Statement-F.Release id l a) h = refl
lone_splits k (Statement-F.If id l e a b) h = refl
lone_splits k (Statement-F.While id l e b) h = refl
lone_splits k (Statement-F.Do id l e b) h = refl
lone_splits k (Statement-F.For id l i e n b) h = refl
lone_splits k (Statement-F.Switch id l e as_) h = refl
lone_splits k (Statement-F.Block l b) h = refl
lone_splits k (Statement-F.Return id l e) h = refl

module _ (p : Program) where
  -- the function in whose body a statement stands
  record StandsAt (x : Statement) : Type 0 where
    number : ℕ
    function : Function
    at : slice_get p.functions number ≡ Some function
    stands : StandsIn function.body x

  stands_at : (x : Statement) → StandsInProgram p x → StandsAt x
  stands_at x w = record { number = w.defined.0; function = w.function; at = contained_at p.functions w.function w.defined.0 w.defined.1 w.defined.2; stands = w.stands }

  done_in : (f : ℕ) (c : Function) (d : Doing) → slice_get p.functions f ≡ Some c → IsIn (body_doings c.body) d → Contains (doings_of p f) d
  done_in f c d at m = contains_of_in (doings_of p f) d (subst (λ (o : Option Function). IsIn (option_map_or (λ (g : Function). body_doings g.body) o []) d) (sym at) m)

  -- the parts of a for of a well-formed program declare nothing by a call
  parts_lone : (x part : Statement) → IsWellFormed p → StandsInProgram p x → Contains (for_parts x) part → is_lone part ≡ true
  parts_lone x part ok stands m =
      let w = stands_at x stands in
      let o = other ok.same p (sym ok.but_lines) w.number w.function w.at in
      whole_alike w.function.body o.function.body (ap (λ (f : Function). f.body) (sym o.alike)) (function_whole ok.raw ok.same ok.tree ok.has ok.within w.number o.function o.at) x part w.stands m

  module _ (k : Kept ℕ) (h : HangsTogether p k) where
    stays_kept : (x : ℕ) → stays (words_kept k) p x ≡ true → k.variable x ≡ true
    stays_kept x q =
        let n = in_of_named (words_in k) (functions_doings p.functions) x (sym (functions_same (words_in k) p.functions x) ∙ q) in
        let o = of_function p.functions n.doing n.member in
        by_doing o.number n.doing (done_in o.number o.function n.doing o.at o.member) n.names
      where
        by_doing : (f : ℕ) (d : Doing) → Contains (doings_of p f) d → kept_names (words_in k) d x ≡ true → k.variable x ≡ true
        by_doing f (Does i a) m named = let b = and_parts (k.statement i) (act_names a x) named in h.acts f i x a m b.0 b.1
        by_doing f (Calls i to g args) m named = let b = and_parts (k.statement i) (call_names (words_in k) i to args x) named in h.calls f i g x to args m b.0 b.1

    pub words_hang : IsWellFormed p → OwnHang p k
    words_hang ok = record {
      nested = h.nested;
      functions = λ n i f x at stands own c.
          let b = own_of i (own_start x) own in
          let w = own_does x i b.0 b.1 in
          h.owners n w.doing (done_in n f w.doing at (stands_does stands w.doing w.member)) (ap k.statement w.number ∙ c);
      called = λ i l f to args x stands out c.
          let w = stands_at x stands in
          let is : x ≡ s.Invoke i l to f args = sym (roll-out-Statement x) ∙ ap roll-Statement out ∙ s.rolls-Invoke i l to f args in
          let does : IsIn (doings x) (Calls i to f args) = subst (λ ds. IsIn ds (Calls i to f args)) (sym (ap doings is ∙ doings-Invoke i l to f args)) (inl refl) in
          h.callees w.number i f to args (done_in w.number w.function (Calls i to f args) w.at (stands_does w.stands (Calls i to f args) does)) c;
      variables = stays_kept;
      parts = λ x part stands m. lone_splits k (out-Statement part) (parts_lone x part ok stands m);
    }

    -- each kept statement has its own words
    pub hanging_words : IsWellFormed p → KeepsWords p k
    hanging_words ok = keeps_words p k (words_hang ok)
