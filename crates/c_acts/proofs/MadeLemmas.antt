-- What an act makes, by where expressions are evaluated; and what it changes.
use Rattle.std.proofs.Common.{◌≡◌, ℕ, List, [], ◌∷◌, Option, Some, None, option_map, refl, sym, ap, ap₂, ◌∙◌}
use Rattle.std.specs.Prelude.{pos, option_and_then}
use Rattle.c_arith.specs.IntType.{convert}
use Rattle.c_arith.specs.declared.int_type.IntType.TheVariants.{Int, UChar}
use Rattle.c_arith.specs.declared.operators.BinaryOp.{BinaryOp}
use Rattle.c_tree.specs.declared.expr.Expr.{Expr}
use Rattle.c_tree.specs.declared.program.Init.{Init}
use Rattle.c_tree.specs.declared.program.Init.TheVariants as init
use Rattle.c_tree.specs.declared.statement.Amount.{Amount}
use Rattle.c_tree.specs.declared.statement.Amount.TheVariants as amount
use Rattle.c_tree.specs.declared.statement.Target.{Target}
use Rattle.c_tree.specs.declared.statement.Target.TheVariants as target
use Rattle.c_language.specs.Code.{Act, Begins, Sets, Bumps, Fetches, Writes, Prints, Allocates, Frees, Returns, Tests}
use Rattle.c_language.specs.DeclaredTypes.{integer}
use Rattle.c_meaning.specs.declared.value.Place.{Place}
use Rattle.c_meaning.specs.declared.value.Value.{Value}
use Rattle.c_meaning.specs.declared.value.Value.TheVariants.{Number}
use Rattle.c_meaning.specs.Acts.{Made, made, shows, given, set_by, right_of, assigned, if_cell, bump, begun_by, begun_with, listed_in, freed_at, put_out, printed_all, allocated_by, target_type, asked_count, next_block, next_byte, taking, as_result, returning}
use Rattle.c_meaning.specs.Memory.{Memory}
use Rattle.c_meaning.specs.Values.{Types, Origin, State, tested, number_in, binary_value, type_of, place, eval, eval_all, beside, variable_place}
use Rattle.c_memory.proofs.SceneLaws.{decided}
use Rattle.c_acts.specs.declared.makings.Made.{Made as Making}
use Rattle.c_acts.specs.Makings.{Seen, seen, made_in, made_from, IsChange}

-- ---- where expressions are evaluated

module _ (types : Types) (f : ℕ → Option ℕ) (m : Memory) (r r1 : Option Value) (os os1 : List Origin) (u u1 : List ℕ) where
  abbrev here : State
  here = record { frame = f; returned = r; memory = m; origins = os; unread = u }

  abbrev there : State
  there = record { frame = f; returned = r1; memory = m; origins = os1; unread = u1 }

  value_same : (e : Expr) → eval types e here ≡ eval types e there
  value_same e = (decided types e here there refl refl).value

  place_same : (e : Expr) → place types e here ≡ place types e there
  place_same e = (decided types e here there refl refl).place

  values_same : (es : List Expr) → eval_all types es here ≡ eval_all types es there
  values_same [] = refl
  values_same (e ∷ es) = ap₂ beside (value_same e) (values_same es)

  set_same : (e : Expr) (v w : Option Value) → v ≡ w → set_by types e v here ≡ set_by types e w there
  set_same e v w h =
      ap₂ (λ (o : Option Place) (x : Option Value). assigned (type_of types e) (option_and_then (if_cell m) o) x) (place_same e) h

  right_same : (op : Option BinaryOp) (a b : Expr) → right_of types op a b here ≡ right_of types op a b there
  right_same None a b = value_same b
  right_same (Some op) a b = ap₂ (binary_value op (type_of types a) (type_of types b) m) (value_same a) (value_same b)

  begun_same : (x : ℕ) (i : Init) → begun_with types x i here ≡ begun_with types x i there
  begun_same x init.None = refl
  begun_same x (init.One e) = ap (λ (v : Option Value). begun_by types x v here) (value_same e)
  begun_same x (init.Items es) =
      ap (option_and_then (λ (ws : List Value). option_and_then (listed_in (types.typing.variable x).layers (types.typing.variable x).base m ws) (variable_place x here))) (values_same es)

  given_same : (to : Target) (v : Value) → given types to v here ≡ given types to v there
  given_same target.None v = refl
  given_same (target.Place e) v = set_same e (Some v) (Some v) refl
  given_same (target.Declared x) v = refl

  count_same : (n : Amount) → asked_count types n here ≡ asked_count types n there
  count_same (amount.Size t) = refl
  count_same (amount.CountSize e t) = ap (option_and_then number_in) (value_same e)
  count_same (amount.SizeCount t e) = ap (option_and_then number_in) (value_same e)
  count_same (amount.Count e) = ap (option_and_then number_in) (value_same e)

  result_same : (o : Option Expr) → made types (Returns o) here ≡ made types (Returns o) there
  result_same None = refl
  result_same (Some e) = ap (λ (v : Option Value). option_map returning (option_and_then (as_result types.result) v)) (value_same e)

  made_same : (a : Act) → made types a here ≡ made_from types u a there
  made_same (Begins x i) = begun_same x i
  made_same (Sets a op b) = set_same a _ _ (right_same op a b)
  made_same (Bumps a up) =
      set_same a _ _ (ap (λ (v : Option Value). binary_value (bump up) (type_of types a) (integer Int) m v (Some (Number (pos 1)))) (value_same a))
  made_same (Fetches to) = ap (option_map taking) (given_same to (Number (next_byte u)))
  made_same (Writes e) = ap (option_map (λ (v : Value). put_out (convert (tested v) UChar))) (value_same e)
  made_same (Prints format args) = ap (option_map (printed_all format)) (values_same args)
  made_same (Allocates to n) = ap₂ (allocated_by (target_type types to)) (count_same n) (given_same to (next_block here))
  made_same (Frees e) = ap (option_and_then (freed_at m)) (value_same e)
  made_same (Returns o) = result_same o
  made_same (Tests e) = ap (option_map (λ (v : Value). shows (Number (tested v) ∷ []) [])) (value_same e)

-- an act makes the same of a state that has the same blocks of variables, memory and input, whatever else it has
pub made_at : (types : Types) (a : Act) (s : State) (f : ℕ → Option ℕ) (m : Memory) (r1 : Option Value) (os1 : List Origin) (u u1 : List ℕ) → f ≡ s.frame → m ≡ s.memory → u ≡ s.unread
    → made_from types u a (record { frame = f; returned = r1; memory = m; origins = os1; unread = u1 }) ≡ made types a s
made_at types a s f m r1 os1 u u1 ef em eu =
    sym (made_same types f m s.returned r1 s.origins os1 u u1 a)
    ∙ ap₂ (λ (g : ℕ → Option ℕ) (n : Memory). made types a (record { frame = g; returned = s.returned; memory = n; origins = s.origins; unread = u })) ef em
    ∙ ap (λ (v : List ℕ). made types a (record { frame = s.frame; returned = s.returned; memory = s.memory; origins = s.origins; unread = v })) eu

-- the value of an expression likewise
pub value_at : (types : Types) (e : Expr) (s t : State) → t.frame ≡ s.frame → t.memory ≡ s.memory → eval types e t ≡ eval types e s
value_at types e s t ef em = (decided types e t s ef em).value

pub values_at : (types : Types) (es : List Expr) (s t : State) → t.frame ≡ s.frame → t.memory ≡ s.memory → eval_all types es t ≡ eval_all types es s
values_at types [] s t ef em = refl
values_at types (e ∷ es) s t ef em = ap₂ beside (value_at types e s t ef em) (values_at types es s t ef em)

pub given_at : (types : Types) (to : Target) (v : Value) (s t : State) → t.frame ≡ s.frame → t.memory ≡ s.memory → given types to v t ≡ given types to v s
given_at types to v s t ef em =
    given_same types t.frame t.memory t.returned s.returned t.origins s.origins t.unread s.unread to v
    ∙ ap₂ (λ (g : ℕ → Option ℕ) (n : Memory). given types to v (record { frame = g; returned = s.returned; memory = n; origins = s.origins; unread = s.unread })) ef em

-- ---- what was made

pub made_some : (mk : Making) (o : Option Made) → Some (made_in mk) ≡ option_map seen o → (m : Made) × ((o ≡ Some m) × (made_in mk ≡ seen m))
made_some mk None e = absurd (none_some e)
  where
    none_some : {A : Type 0} {a : A} → Some a ≡ None → ⊥
    none_some h = cc
made_some mk (Some m) e = (m, (refl, some_same e))
  where
    some_same : {a b : Seen} → Some a ≡ Some b → a ≡ b
    some_same h = cc

pub made_none : (o : Option Made) → None ≡ option_map seen o → o ≡ None
made_none None e = refl
made_none (Some m) e = cc

pub change_of : (mk : Making) (m : Made) → made_in mk ≡ seen m → IsChange mk.change m
change_of mk m e =
    record {
      stores = ap (λ (s : Seen). s.stores) e;
      taken = ap (λ (s : Seen). s.taken) e;
      begun = ap (λ (s : Seen). s.begun) e;
      freed = ap (λ (s : Seen). s.freed) e;
      returned = ap (λ (s : Seen). s.returned) e;
    }
