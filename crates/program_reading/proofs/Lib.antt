mod KnownLemmas
mod FolderLemmas
mod ReadLemmas
