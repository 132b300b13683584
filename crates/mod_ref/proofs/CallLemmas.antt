-- The calls among statements, as rules.
use Rattle.std.proofs.Common.{◌≡◌, ◌⊎◌, ℕ, List, [], ◌++◌, inl, inr, Option, Some, None, Contains, ap, subst}
use Rattle.std.proofs.lemmas.Option.{same_Some}
use Rattle.std.proofs.lemmas.List.Elements.{Contains-append_left, Contains-append_right, Contains-append_cases}
use Rattle.rule_closure.specs.declared.closure.Rule.{Rule}
use Rattle.rule_closure.proofs.ListLemmas.{contains_none, contains_head, contains_cases}
use Rattle.c_tree.specs.declared.expr.Expr.{Expr}
use Rattle.c_tree.specs.declared.statement.Target.{Target}
use Rattle.dep_model.specs.Doings.{Doing, Does, Calls}
use Rattle.mod_ref.specs.Own.{one_of, callee_of, IsCallIn, AreCallsAdded}

-- ---- one statement

-- a call in it is its own
pub called_one : (o : Option Doing) (i k : ℕ) (to : Target) (args : List Expr) → Contains (one_of o) (Calls i to k args) → callee_of o ≡ Some k
called_one None i k to args c = absurd (contains_none _ c)
called_one (Some d) i k to args c = elim (contains_cases d [] (Calls i to k args) c) [
  | inl same ↦ ap (λ (x : Doing). callee_of (Some x)) same
  | inr none ↦ absurd (contains_none _ none)
]

-- the call of a statement that calls
pub record OneCall (o : Option Doing) (k : ℕ) : Type 0 where
  pub id : ℕ
  pub target : Target
  pub args : List Expr
  pub member : Contains (one_of o) (Calls id target k args)

pub one_call : (o : Option Doing) (k : ℕ) → callee_of o ≡ Some k → OneCall o k
one_call None k e = cc
one_call (Some (Does i a)) k e = cc
one_call (Some (Calls i to g args)) k e =
    subst (OneCall (Some (Calls i to g args))) (same_Some _ _ e) (record { id = i; target = to; args = args; member = contains_head (Calls i to g args) [] })

-- ---- two lists of statements

module _ (n f : ℕ) where
  call_of : (ds es : List Doing) (r : Rule) → ((d : Doing) → Contains ds d → Contains es d) → IsCallIn n f ds r → IsCallIn n f es r
  call_of ds es r in_es c = record {
    id = c.id;
    target = c.target;
    callee = c.callee;
    args = c.args;
    member = in_es (Calls c.id c.target c.callee c.args) c.member;
    callee_in = c.callee_in;
    rule_is = c.rule_is;
  }

  call_cases : (ds es : List Doing) (r : Rule) → IsCallIn n f (ds ++ es) r → IsCallIn n f ds r ⊎ IsCallIn n f es r
  call_cases ds es r c = elim (Contains-append_cases ds es (Calls c.id c.target c.callee c.args) c.member) [
    | inl a ↦ inl (record { id = c.id; target = c.target; callee = c.callee; args = c.args; member = a; callee_in = c.callee_in; rule_is = c.rule_is })
    | inr b ↦ inr (record { id = c.id; target = c.target; callee = c.callee; args = c.args; member = b; callee_in = c.callee_in; rule_is = c.rule_is })
  ]

  pub calls_both : (ds es : List Doing) (old mid new : List Rule) → AreCallsAdded n f ds old mid → AreCallsAdded n f es mid new → AreCallsAdded n f (ds ++ es) old new
  calls_both ds es old mid new first second r = (
    λ m. elim ((second r).0 m) [
      | inl k ↦ elim ((first r).0 k) [
        | inl o ↦ inl o
        | inr a ↦ inr (call_of ds (ds ++ es) r (λ d c. Contains-append_left ds es d c) a)
      ]
      | inr b ↦ inr (call_of es (ds ++ es) r (λ d c. Contains-append_right ds es d c) b)
    ],
    λ h. elim h [
      | inl o ↦ (second r).1 (inl ((first r).1 (inl o)))
      | inr c ↦ elim (call_cases ds es r c) [
        | inl a ↦ (second r).1 (inl ((first r).1 (inr a)))
        | inr b ↦ (second r).1 (inr b)
      ]
    ],
  )
