-- Tables of which one table grew: the others as they were.
use Rattle.std.proofs.Common.{◌≡◌, ap}
use Rattle.set.specs.Grown.{Lists}

module _ {a b : Lists} (e : a ≡ b) where
  pub kept_classes : a.classes ≡ b.classes
  kept_classes = ap (λ (l : Lists). l.classes) e

  pub kept_fields : a.fields ≡ b.fields
  kept_fields = ap (λ (l : Lists). l.fields) e

  pub kept_methods : a.methods ≡ b.methods
  kept_methods = ap (λ (l : Lists). l.methods) e

  pub kept_params : a.params ≡ b.params
  kept_params = ap (λ (l : Lists). l.params) e

  pub kept_instrs : a.instrs ≡ b.instrs
  kept_instrs = ap (λ (l : Lists). l.instrs) e

  pub kept_handlers : a.handlers ≡ b.handlers
  kept_handlers = ap (λ (l : Lists). l.handlers) e
