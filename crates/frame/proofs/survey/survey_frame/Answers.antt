use Rattle.std.proofs.Common.{◌∙◌}
use Rattle.frame.proofs.Opening.{other_type, same_type}
use Rattle.frame.proofs.survey.survey_frame.Goals as goal

pub returns-then-first_octet-pdu_type : goal.returns-then-first_octet-pdu_type
returns-then-first_octet-pdu_type g c =
    other_type (g.L.Layout.meaning c.args.lawful.now.layout.now) _ c.args.frame.octets.now _ _ c.first_octet.ensures c.pdu_type.ensures.value c.if-first_octet-pdu_type.true

pub returns : goal.returns
returns g c =
    c.survey_items.ensures
    ∙ same_type (g.L.Layout.meaning c.args.lawful.now.layout.now) _ c.args.frame.octets.now _ _ c.first_octet.ensures c.pdu_type.ensures.value c.if-first_octet-pdu_type.false
