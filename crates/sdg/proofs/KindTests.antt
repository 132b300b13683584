-- What `==` says of kinds of vertices.
use Rattle.std.proofs.Common.{◌≡◌, ℕ, refl, ap, Bool}
use Rattle.std.specs.Bool.{Decides}
use Rattle.std.proofs.lemmas.Bool.{false≢true}
use Rattle.std.proofs.lemmas.Bool.Decides.{Decides-eqb}
use Rattle.dep_model.specs.contracts.vertex.SlotPartialEq as slots
use Rattle.dep_model.specs.contracts.vertex.VertexKindPartialEq as kinds
use Rattle.dep_model.specs.declared.vertex.Slot.{Slot}
use Rattle.dep_model.specs.declared.vertex.Slot.TheVariants.{Argument, Result, At}
use Rattle.dep_model.specs.declared.vertex.VertexKind.{VertexKind}
use Rattle.dep_model.specs.declared.vertex.VertexKind.TheVariants.{Entry, FormalIn, FormalOut, Statement, Call, ActualIn, ActualOut}

abbrev same_slot : Slot → Slot → Bool
same_slot = slots.TheImpl.eq-value.it

abbrev pub same_kind : VertexKind → VertexKind → Bool
same_kind = kinds.TheImpl.eq-value.it

slots_decide : (a b : Slot) → Decides (same_slot a b) (a ≡ b)
slots_decide (Argument i) (Argument j) = let d = Decides-eqb i j in (λ e. ap Argument (d.0 e), λ e. d.1 cc)
slots_decide (Argument i) Result = (λ e. absurd (false≢true e), λ e. cc)
slots_decide (Argument i) (At j) = (λ e. absurd (false≢true e), λ e. cc)
slots_decide Result (Argument j) = (λ e. absurd (false≢true e), λ e. cc)
slots_decide Result Result = (λ e. refl, λ e. refl)
slots_decide Result (At j) = (λ e. absurd (false≢true e), λ e. cc)
slots_decide (At i) (Argument j) = (λ e. absurd (false≢true e), λ e. cc)
slots_decide (At i) Result = (λ e. absurd (false≢true e), λ e. cc)
slots_decide (At i) (At j) = let d = Decides-eqb i j in (λ e. ap At (d.0 e), λ e. d.1 cc)

pub is_formal_in_of : (k : VertexKind) (s : Slot) → Decides (same_kind k (FormalIn s)) (k ≡ FormalIn s)
is_formal_in_of Entry s = (λ e. absurd (false≢true e), λ e. cc)
is_formal_in_of (FormalIn t) s = let d = slots_decide t s in (λ e. ap FormalIn (d.0 e), λ e. d.1 cc)
is_formal_in_of (FormalOut t) s = (λ e. absurd (false≢true e), λ e. cc)
is_formal_in_of (Statement i) s = (λ e. absurd (false≢true e), λ e. cc)
is_formal_in_of (Call i) s = (λ e. absurd (false≢true e), λ e. cc)
is_formal_in_of (ActualIn i t) s = (λ e. absurd (false≢true e), λ e. cc)
is_formal_in_of (ActualOut i t) s = (λ e. absurd (false≢true e), λ e. cc)

pub is_formal_out_of : (k : VertexKind) (s : Slot) → Decides (same_kind k (FormalOut s)) (k ≡ FormalOut s)
is_formal_out_of Entry s = (λ e. absurd (false≢true e), λ e. cc)
is_formal_out_of (FormalIn t) s = (λ e. absurd (false≢true e), λ e. cc)
is_formal_out_of (FormalOut t) s = let d = slots_decide t s in (λ e. ap FormalOut (d.0 e), λ e. d.1 cc)
is_formal_out_of (Statement i) s = (λ e. absurd (false≢true e), λ e. cc)
is_formal_out_of (Call i) s = (λ e. absurd (false≢true e), λ e. cc)
is_formal_out_of (ActualIn i t) s = (λ e. absurd (false≢true e), λ e. cc)
is_formal_out_of (ActualOut i t) s = (λ e. absurd (false≢true e), λ e. cc)

pub is_call_of : (k : VertexKind) (i : ℕ) → Decides (same_kind k (Call i)) (k ≡ Call i)
is_call_of Entry i = (λ e. absurd (false≢true e), λ e. cc)
is_call_of (FormalIn t) i = (λ e. absurd (false≢true e), λ e. cc)
is_call_of (FormalOut t) i = (λ e. absurd (false≢true e), λ e. cc)
is_call_of (Statement j) i = (λ e. absurd (false≢true e), λ e. cc)
is_call_of (Call j) i = let d = Decides-eqb j i in (λ e. ap Call (d.0 e), λ e. d.1 cc)
is_call_of (ActualIn j t) i = (λ e. absurd (false≢true e), λ e. cc)
is_call_of (ActualOut j t) i = (λ e. absurd (false≢true e), λ e. cc)
