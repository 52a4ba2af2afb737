pub mod NumberedRows
