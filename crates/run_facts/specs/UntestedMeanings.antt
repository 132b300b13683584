-- What expressions would mean if no type were tested where an object is designated; four forms differ.
use Rattle.std.specs.Prelude.{◌≡◌, ℕ, List, ◌∷◌, Option, Some, None, option_map, option_and_then, Contains}
use Rattle.c_tree.specs.declared.expr.Expr.{Expr, fold-Expr, map-Expr}
use Rattle.c_tree.specs.declared.expr.Expr.TheOpen.{Expr-F}
use Rattle.c_tree.specs.declared.expr.MemberId.{MemberId}
use Rattle.c_tree.specs.declared.program.Program.{Program}
use Rattle.c_language.specs.TreeTypes.{typed_step}
use Rattle.c_language.specs.declared.expr_type.ExprType.{ExprType}
use Rattle.c_meaning.specs.declared.value.Hop.TheVariants as hop
use Rattle.c_meaning.specs.declared.value.Place.{Place}
use Rattle.c_meaning.specs.declared.value.Value.{Value}
use Rattle.c_meaning.specs.declared.value.Value.TheVariants.{Number, Null, To}
use Rattle.c_meaning.specs.Memory.{Memory}
use Rattle.c_meaning.specs.Pointers.{inside, pointed}
use Rattle.c_meaning.specs.Values.{Types, State, Meant, an_object, a_part, indexed, meant_as, meant}
use Rattle.c_meaning.specs.Activations.{executable, types_in}
use Rattle.c_meaning.specs.Steps.{Waiting, Point}
use Rattle.dep_model.specs.Doings.{Doing}
use Rattle.run_facts.specs.Effects.{back_in, next_doing}
use Rattle.run_facts.specs.NextExprs.{target_exprs, doing_values, doing_places}

-- the object to which a value points, of whatever type it is
abbrev pub pointed_by : Memory → Value → Option Place
pointed_by m (Number z) = None
pointed_by m Null = None
pointed_by m (To p) = pointed m p

abbrev pub member_in : MemberId → Option Place → Option Place
member_in m o = option_map (inside (hop.Member m.index)) o

abbrev pub untested_as : ExprType → Expr-F Meant → Meant
untested_as t (Expr-F.Constant text k v) = meant_as t (Expr-F.Constant text k v)
untested_as t Expr-F.Null = meant_as t Expr-F.Null
untested_as t Expr-F.Eof = meant_as t Expr-F.Eof
untested_as t (Expr-F.Variable x) = meant_as t (Expr-F.Variable x)
untested_as t (Expr-F.Unary op a) = meant_as t (Expr-F.Unary op a)
untested_as t (Expr-F.Deref a) = an_object t (λ s. option_and_then (pointed_by s.memory) (a.value s)) a.value
untested_as t (Expr-F.AddressOf a) = meant_as t (Expr-F.AddressOf a)
untested_as t (Expr-F.Binary op a b) = meant_as t (Expr-F.Binary op a b)
untested_as t (Expr-F.AndAlso a b) = meant_as t (Expr-F.AndAlso a b)
untested_as t (Expr-F.OrElse a b) = meant_as t (Expr-F.OrElse a b)
untested_as t (Expr-F.Choose c a b) = meant_as t (Expr-F.Choose c a b)
untested_as t (Expr-F.Cast k a) = meant_as t (Expr-F.Cast k a)
untested_as t (Expr-F.Index a i) = an_object t (λ s. option_and_then (pointed_by s.memory) (indexed a i s)) (indexed a i)
untested_as t (Expr-F.Member a m) = a_part t (λ s. member_in m (a.place s))
untested_as t (Expr-F.Arrow a m) = a_part t (λ s. member_in m (option_and_then (pointed_by s.memory) (a.value s)))
untested_as t (Expr-F.Paren a) = meant_as t (Expr-F.Paren a)

abbrev pub untested_step : Types → Expr-F Meant → Meant
untested_step types z = untested_as (typed_step types.typing (map-Expr Meant ExprType (λ (m : Meant). m.type) z)) z

abbrev pub untested : Types → Expr → Meant
untested types = fold-Expr Meant (untested_step types)

-- in a state both give the same type, object, value and address
pub record AreSame (s : State) (u m : Meant) : Type 0 where
  pub type_is : u.type ≡ m.type
  pub place_is : u.place s ≡ m.place s
  pub value_is : u.value s ≡ m.value s
  pub address_is : u.address s ≡ m.address s

module _ (p : Program) where
  -- an expression in a function, in a state, means the same with the tests of types and without them
  abbrev pub Fits : ℕ → State → Expr → Type 0
  Fits f s e = AreSame s (untested (types_in (executable p) f) e) (meant (types_in (executable p) f) e)

  -- where a run stands, the tests of types let each expression of what is done next through, and that to which a waiting caller stores
  pub record TypesFit (x : Point) : Type 0 where
    pub values : (d : Doing) (e : Expr) → next_doing x.rest ≡ Some d → Contains (doing_values d) e → Fits x.function x.state e
    pub places : (d : Doing) (e : Expr) → next_doing x.rest ≡ Some d → Contains (doing_places d) e → Fits x.function x.state e
    pub receipts :
        (w : Waiting) (ws : List Waiting) (e : Expr) → x.callers ≡ w ∷ ws → Contains (target_exprs w.target) e
        → Fits w.function (back_in (executable p) x.function w x.state) e
