-- What statements do is added one part after another.
use Rattle.std.proofs.Common.{◌≡◌, ◌<◌, ◌||◌, ◌⊎◌, ◌+◌, ℕ, Bool, true, false, List, [], ◌++◌, length, take, get_or, inl, inr, Option, Some, None, Contains, refl, sym, ap, ◌∙◌, subst, arith}
use Rattle.std.specs.Borrow.{Bor}
use Rattle.std.specs.List.{list_any}
use Rattle.std.proofs.lemmas.List.Folds.{list_any-append}
use Rattle.bit_rows.specs.Sets.{has}
use Rattle.bit_rows.specs.Tables.{Table, the_set, IsSized}
use Rattle.c_language.proofs.Tests.{or_assoc}
use Rattle.c_language.proofs.Turns.{IsEach, each_turn}
use Rattle.c_tree.specs.declared.program.Program.{Program}
use Rattle.c_tree.specs.declared.statement.Arm.{Arm}
use Rattle.c_tree.specs.declared.statement.Statement.{Statement}
use Rattle.dep_model.specs.declared.location.Location.{Location}
use Rattle.dep_model.specs.declared.points_to.PointsTo.{PointsTo}
use Rattle.dep_model.specs.Denoted.{Places, TargetsOf}
use Rattle.dep_model.specs.DoingEffects.{doing_uses, doing_defines}
use Rattle.dep_model.specs.Doings.{Doing, doings, body_doings}
use Rattle.dep_model.specs.LocationRows.{points_of}
use Rattle.dep_model.specs.Locations.{locations}
use Rattle.effect_rows.specs.Gains.{with_places, HasLocationRow}
use Rattle.effect_rows.specs.Laws.{GainsByPlace}
use Rattle.effect_rows.specs.Own.{own_doing, own_uses, own_defines, uses_of, defines_of}
use Rattle.effect_rows.proofs.GainLaws.{gains_by_place}
use Rattle.rule_closure.specs.declared.closure.Rule.{Rule}
use Rattle.mod_ref.specs.declared.own.Own.{Own}
use Rattle.mod_ref.specs.Own.{one_of, own_doings, arms_doings, callee_of, IsCallIn, AreCallsAdded, any_defines, any_uses, points_in, HasOwnRows, IsAdded, IsCalled}
use Rattle.mod_ref.proofs.CallLemmas.{called_one, one_call, calls_both}

or_false : (b : Bool) → (b || false) ≡ b
or_false true = refl
or_false false = refl

-- ---- rows

module _ (p : Program) (r : ℕ) where
  gains_both : (a b c : Places) (t u v : Table) → GainsByPlace p r a t u → GainsByPlace p r b u v → ((l : Location) → c l ≡ (a l || b l)) → GainsByPlace p r c t v
  gains_both a b c t u v g h is = record {
    gained = λ k o at.
        h.gained k o at ∙ ap (λ x. x || b o.location) (g.gained k o at) ∙ or_assoc (has (the_set t r) k) (a o.location) (b o.location)
        ∙ ap (λ x. has (the_set t r) k || x) (sym (is o.location));
    others = λ s apart. h.others s apart ∙ g.others s apart;
  }

  gains_as : (a c : Places) (t u : Table) → HasLocationRow p r t → u ≡ with_places p r a t → ((l : Location) → c l ≡ a l) → GainsByPlace p r c t u
  gains_as a c t u row is same =
      let g = gains_by_place p r a t row in
      record {
        gained = λ k o at. ap (λ x. has (the_set x r) k) is ∙ g.gained k o at ∙ ap (λ x. has (the_set t r) k || x) (sym (same o.location));
        others = λ s apart. ap (λ x. the_set x s) is ∙ g.others s apart;
      }

-- ---- what one statement does itself

own_defined : (p : Program) (points : TargetsOf) (f : ℕ) (o : Option Doing) (l : Location) → any_defines p points f (one_of o) l ≡ defines_of p points f o l
own_defined p points f None l = refl
own_defined p points f (Some d) l = or_false (doing_defines p points f d l)

own_used : (p : Program) (points : TargetsOf) (o : Option Doing) (l : Location) → any_uses p points (one_of o) l ≡ uses_of p points o l
own_used p points None l = refl
own_used p points (Some d) l = or_false (doing_uses p points d l)

-- the walk behind what rows have gained, and before the call
pub record IsBefore (f : ℕ) (s : Statement) (old before : Own) : Type 0 where
  pub program_is : before.effects ≡ old.effects
  pub points_is : before.points ≡ old.points
  pub functions_is : before.functions ≡ old.functions
  pub calls_is : before.calls.items ≡ old.calls.items
  pub modified_is : before.modified ≡ with_places old.effects f (own_defines old.effects (points_in old) f s) old.modified
  pub used_is : before.used ≡ with_places old.effects f (own_uses old.effects (points_in old) s) old.used

pub alone_added : (f : ℕ) (s : Statement) (g : Option ℕ) (old before new : Own) → HasOwnRows old → f < old.functions → IsBefore f s old before → g ≡ callee_of (own_doing s) → IsCalled f g before new → IsAdded f (own_doings s) old new
alone_added f s g old before new rows low b callee called =
    let count = rows.functions_are in
    let row : f < length old.modified.sets = let n = rows.modified_sized.rows_are in omega (arith, low, count, n) in
    let row_too : f < length old.used.sets = let n = rows.used_sized.rows_are in omega (arith, low, count, n) in
    record {
      on = record {
        rows = called.on.rows;
        program_is = called.on.program_is ∙ b.program_is;
        points_is = called.on.points_is ∙ b.points_is;
        functions_is = called.on.functions_is ∙ b.functions_is;
      };
      modified = gains_as old.effects f (own_defines old.effects (points_in old) f s) (any_defines old.effects (points_in old) f (own_doings s)) old.modified new.modified
          (record { sized = sized_again old.modified rows.modified_sized; row_in = row }) (called.modified_is ∙ b.modified_is) (own_defined old.effects (points_in old) f (own_doing s));
      used = gains_as old.effects f (own_uses old.effects (points_in old) s) (any_uses old.effects (points_in old) (own_doings s)) old.used new.used
          (record { sized = sized_again old.used rows.used_sized; row_in = row_too }) (called.used_is ∙ b.used_is) (own_used old.effects (points_in old) (own_doing s));
      calls = λ r. (λ m. from r m, λ h. into r h);
    }
  where
    sized_again : (t : Table) → IsSized (length old.effects.functions) (length (locations old.effects)) t → IsSized (length t.sets) (length (locations old.effects)) t
    sized_again t size = subst (λ n. IsSized n (length (locations old.effects)) t) (sym size.rows_are) size

    from : (r : Rule) → Contains new.calls.items r → Contains old.calls.items r ⊎ IsCallIn old.functions f (own_doings s) r
    from r m = elim (called.from r m) [
      | inl k ↦ inl (subst (λ rs. Contains rs r) b.calls_is k)
      | inr h ↦
          let one = one_call (own_doing s) h.0 (sym callee ∙ h.1) in
          inr (record { id = one.id; target = one.target; callee = h.0; args = one.args; member = one.member; callee_in = subst (λ n. h.0 < n) b.functions_is h.2; rule_is = h.3 })
    ]

    into : (r : Rule) → Contains old.calls.items r ⊎ IsCallIn old.functions f (own_doings s) r → Contains new.calls.items r
    into r h = elim h [
      | inl k ↦ called.kept r (subst (λ rs. Contains rs r) (sym b.calls_is) k)
      | inr c ↦
          subst (Contains new.calls.items) c.rule_is
          (called.added c.callee (callee ∙ called_one (own_doing s) c.id c.callee c.target c.args c.member) (subst (λ n. c.callee < n) (sym b.functions_is) c.callee_in))
    ]

-- ---- one part, and then another

any_both : (A : Type 0) (test : A → Bool) (all ds es : List A) → all ≡ ds ++ es → list_any test all ≡ (list_any test ds || list_any test es)
any_both A test all ds es is = ap (list_any test) is ∙ list_any-append test ds es

pub added_both : (f : ℕ) (ds es all : List Doing) (old mid new : Own) → IsAdded f ds old mid → IsAdded f es mid new → all ≡ ds ++ es → IsAdded f all old new
added_both f ds es all old mid new first second is =
    let modified : GainsByPlace old.effects f (any_defines old.effects (points_in old) f es) mid.modified new.modified =
    subst (λ (b : Bor PointsTo). GainsByPlace old.effects f (any_defines old.effects (points_of old.effects b.now) f es) mid.modified new.modified) first.on.points_is
    (subst (λ (q : Program). GainsByPlace q f (any_defines q (points_of q mid.points.now) f es) mid.modified new.modified) first.on.program_is second.modified) in
    let used : GainsByPlace old.effects f (any_uses old.effects (points_in old) es) mid.used new.used =
    subst (λ (b : Bor PointsTo). GainsByPlace old.effects f (any_uses old.effects (points_of old.effects b.now) es) mid.used new.used) first.on.points_is
    (subst (λ (q : Program). GainsByPlace q f (any_uses q (points_of q mid.points.now) es) mid.used new.used) first.on.program_is second.used) in
    let calls : AreCallsAdded old.functions f es mid.calls.items new.calls.items =
    subst (λ n. AreCallsAdded n f es mid.calls.items new.calls.items) first.on.functions_is second.calls in
    record {
      on = record {
        rows = second.on.rows;
        program_is = second.on.program_is ∙ first.on.program_is;
        points_is = second.on.points_is ∙ first.on.points_is;
        functions_is = second.on.functions_is ∙ first.on.functions_is;
      };
      modified = gains_both old.effects f (any_defines old.effects (points_in old) f ds) (any_defines old.effects (points_in old) f es) (any_defines old.effects (points_in old) f all) old.modified mid.modified new.modified first.modified modified
          (λ l. any_both Doing (λ (d : Doing). doing_defines old.effects (points_in old) f d l) all ds es is);
      used = gains_both old.effects f (any_uses old.effects (points_in old) ds) (any_uses old.effects (points_in old) es) (any_uses old.effects (points_in old) all) old.used mid.used new.used first.used used
          (λ l. any_both Doing (λ (d : Doing). doing_uses old.effects (points_in old) d l) all ds es is);
      calls = subst (λ xs. AreCallsAdded old.functions f xs old.calls.items new.calls.items) (sym is) (calls_both old.functions f ds es old.calls.items mid.calls.items new.calls.items first.calls calls);
    }

-- ---- turns

each_statement : IsEach doings body_doings
each_statement = record { at_nothing = refl; at_more = λ x xs. refl }

each_arm : IsEach (λ (a : Arm). body_doings a.body) arms_doings
each_arm = record { at_nothing = refl; at_more = λ a as_. refl }

pub statement_turn : (f : ℕ) (list : List Statement) (i : ℕ) (x : Statement) (old mid new : Own) → i < length list → x ≡ get_or list i x → IsAdded f (body_doings (take i list)) old mid → IsAdded f (doings x) mid new → IsAdded f (body_doings (take (i + 1) list)) old new
statement_turn f list i x old mid new low at before added =
    added_both f (body_doings (take i list)) (doings x) (body_doings (take (i + 1) list)) old mid new before added
    (sym (each_turn each_statement list i x [] (body_doings (take i list)) (body_doings (take i list) ++ doings x) low at refl refl))

pub arm_turn : (f : ℕ) (list : List Arm) (i : ℕ) (x : Arm) (old mid new : Own) → i < length list → x ≡ get_or list i x → IsAdded f (arms_doings (take i list)) old mid → IsAdded f (body_doings x.body) mid new → IsAdded f (arms_doings (take (i + 1) list)) old new
arm_turn f list i x old mid new low at before added =
    added_both f (arms_doings (take i list)) (body_doings x.body) (arms_doings (take (i + 1) list)) old mid new before added
    (sym (each_turn each_arm list i x [] (arms_doings (take i list)) (arms_doings (take i list) ++ body_doings x.body) low at refl refl))
