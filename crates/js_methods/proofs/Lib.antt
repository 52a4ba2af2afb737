mod MemberLemmas
mod SearchLemmas
mod MethodLemmas
mod JoinLemmas
mod SplitLemmas
