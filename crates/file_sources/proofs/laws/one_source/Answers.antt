use Rattle.file_sources.proofs.OneSource.{one_file}
use Rattle.file_sources.proofs.laws.one_source.Goals as goal

pub returns : goal.returns
returns c as_script bytes source other h j =
    one_file as_script bytes source other
    (λ xs. record { one = c.one_list_reads.ensures xs; none = c.none_reads_what_is_refused.ensures xs; once = c.refused_in_one_way.ensures xs }) h j
