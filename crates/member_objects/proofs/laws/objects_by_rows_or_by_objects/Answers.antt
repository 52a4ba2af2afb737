use Rattle.member_objects.proofs.ObjectLemmas.{told_alike}
use Rattle.member_objects.proofs.laws.objects_by_rows_or_by_objects.Goals as goal

pub returns : goal.returns
returns c t objects rows all read f kept = told_alike t objects rows all read f kept
