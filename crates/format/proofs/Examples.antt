-- The worked files, by computing.
use Rattle.std.proofs.Common.{refl}
use Rattle.number.specs.Numbers.{number_at, bytes}
use Rattle.jinja.specs.Classes.{superclass_of}
use Rattle.jinja.specs.Lookups.{fields_of, method_at, own_method, sees}
use Rattle.format.specs.Encode.{encode}
use Rattle.format.specs.Rules.{keeps}
use Rattle.format.specs.Parse.{handler_at, method_at as method_read, class_at, classes_at, parse}
use Rattle.format.specs.Examples.{ExamplesStand}

pub examples_stand : ExamplesStand
unfolding number_at bytes superclass_of fields_of method_at own_method sees encode keeps handler_at method_read class_at classes_at parse
examples_stand = record { parsed = (refl, (refl, (refl, (refl, (refl, (refl, (refl, (refl, (refl, (refl, (refl, tt))))))))))); encoded = refl; kept = refl }
