use Rattle.std.proofs.Common.{◌≡◌, List, refl, sym, ap, ap₂, ◌∙◌, Bool}
use Rattle.std.specs.Bool.{Decides}
use Rattle.std.proofs.lemmas.Bool.{false≢true}
use Rattle.std.proofs.lemmas.Bool.Decides.{Decides-eqb}
use Rattle.std.proofs.lemmas.Slice.Eq.{slice_eq-Decides}
use Rattle.dep_model.specs.contracts.location.PartPartialEq as parts
use Rattle.dep_model.specs.contracts.location.RootPartialEq as roots
use Rattle.dep_model.specs.declared.location.Part.{Part}
use Rattle.dep_model.specs.declared.location.Part.TheVariants as part
use Rattle.dep_model.specs.declared.location.Root.{Root}
use Rattle.dep_model.specs.declared.location.Root.TheVariants as root
use Rattle.dep_model.specs.declared.location.Location.{Location}
use Rattle.dep_model.proofs.locations.places.is_same.Goals as goal

parts_decide : (a b : Part) → Decides ((parts.TheImpl.eq-value).it a b) (a ≡ b)
parts_decide (part.Member i) (part.Member j) = let d = Decides-eqb i j in (λ e. ap part.Member (d.0 e), λ e. d.1 cc)
parts_decide (part.Member i) part.Element = (λ e. absurd (false≢true e), λ e. cc)
parts_decide part.Element (part.Member j) = (λ e. absurd (false≢true e), λ e. cc)
parts_decide part.Element part.Element = (λ e. refl, λ e. refl)

roots_decide : (a b : Root) → Decides ((roots.TheImpl.eq-value).it a b) (a ≡ b)
roots_decide root.Input root.Input = (λ e. refl, λ e. refl)
roots_decide root.Input (root.Variable j) = (λ e. absurd (false≢true e), λ e. cc)
roots_decide root.Input (root.Site j) = (λ e. absurd (false≢true e), λ e. cc)
roots_decide root.Input (root.Result j) = (λ e. absurd (false≢true e), λ e. cc)
roots_decide (root.Variable i) root.Input = (λ e. absurd (false≢true e), λ e. cc)
roots_decide (root.Variable i) (root.Variable j) = let d = Decides-eqb i j in (λ e. ap root.Variable (d.0 e), λ e. d.1 cc)
roots_decide (root.Variable i) (root.Site j) = (λ e. absurd (false≢true e), λ e. cc)
roots_decide (root.Variable i) (root.Result j) = (λ e. absurd (false≢true e), λ e. cc)
roots_decide (root.Site i) root.Input = (λ e. absurd (false≢true e), λ e. cc)
roots_decide (root.Site i) (root.Variable j) = (λ e. absurd (false≢true e), λ e. cc)
roots_decide (root.Site i) (root.Site j) = let d = Decides-eqb i j in (λ e. ap root.Site (d.0 e), λ e. d.1 cc)
roots_decide (root.Site i) (root.Result j) = (λ e. absurd (false≢true e), λ e. cc)
roots_decide (root.Result i) root.Input = (λ e. absurd (false≢true e), λ e. cc)
roots_decide (root.Result i) (root.Variable j) = (λ e. absurd (false≢true e), λ e. cc)
roots_decide (root.Result i) (root.Site j) = (λ e. absurd (false≢true e), λ e. cc)
roots_decide (root.Result i) (root.Result j) = let d = Decides-eqb i j in (λ e. ap root.Result (d.0 e), λ e. d.1 cc)

both_decide : (l m : Location) (xs ys : List Part) (r : Bool) → l.root ≡ m.root → xs ≡ l.path → ys ≡ m.path → Decides r (xs ≡ ys) → Decides r (l ≡ m)
both_decide l m xs ys r same own other d = (
  λ e. ap₂ (λ (k : Root) (w : List Part). record { root = k; path = w }) same (sym own ∙ d.0 e ∙ other),
  λ e. d.1 (own ∙ ap (λ (x : Location). x.path) e ∙ sym other),
)

pub returns-then-eq : goal.returns-then-eq
returns-then-eq c =
    let same = (roots_decide c.args.l.now.root c.args.m.now.root).0 (sym c.eq.ensures ∙ c.if-eq.true) in
    both_decide c.args.l.now c.args.m.now c.as_slice.result.now c.as_slice-then-eq.result.now c.eq-then-eq.result same c.as_slice.ensures c.as_slice-then-eq.ensures
    (slice_eq-Decides parts_decide c.as_slice.result.now c.as_slice-then-eq.result.now c.eq-then-eq.result c.eq-then-eq.ensures)
