use Rattle.std.proofs.Common.{List, subst, sym}
use Rattle.hawk_auth.specs.Header.{AttributeData, attributes_data, IsAttributes, Says}
use Rattle.hawk_auth.specs.Mac.{skip_spaces}
use Rattle.hawk_auth.specs.declared.attributes.Attribute.{Attribute}
use Rattle.hawk_auth.proofs.HeaderLemmas.{not_said}
use Rattle.hawk_auth.proofs.header.HawkHeader.read.Goals as goal

pub returns : goal.returns
returns c =
    let all : List AttributeData = attributes_data c.in-Some-2.attributes.items in
    let listed : IsAttributes all (skip_spaces c.in-Some.rest.now) =
    subst (IsAttributes all) c.skip_spaces.ensures.value (rw c.in-Some-2.is at c.in_ok-attributes.ensures) in
    not_said c.args.value.now c.in-Some.rest.now all c.in-Some.ensures listed
    (λ h says. c.in-None.ensures h (subst (λ (xs : List Attribute). Says (attributes_data xs) h) (sym c.deref.ensures.value) says))
